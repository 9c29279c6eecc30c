use Rattle.std.proofs.Common.{◌≡◌, drop}
use Rattle.std.specs.List.{list_all}
use Rattle.yp_netgroup.specs.Parts.{is_name_byte}
use Rattle.yp_netgroup.proofs.reverse.groups.is_name.Given as goal

abbrev pub invariant-loop-byte : goal.invariant-loop-byte
invariant-loop-byte l = list_all is_name_byte (drop l.byte-index l.name) ≡ list_all is_name_byte l.name
