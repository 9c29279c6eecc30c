use Rattle.std.proofs.Common.{◌≡◌, take}
use Rattle.yp_command_mail.specs.Portmap.{mappings_text}
use Rattle.yp_command_mail.proofs.portmap.text_of.Given as goal

abbrev pub invariant-loop-i : goal.invariant-loop-i
invariant-loop-i l = l.text.items ≡ mappings_text (take l.i l.registry)
