use Rattle.std.proofs.Common.{◌≡◌, List, [], drop}
use Rattle.yp_command.specs.Forms as form
use Rattle.yp_command.specs.Words.{each, host_view, texts}
use Rattle.yp_command.specs.inside.Words.{Holds}
use Rattle.yp_command.proofs.further.each_host.Given as goal

abbrev pub invariant-loop-i : goal.invariant-loop-i
invariant-loop-i l =
    (values : List _) × Holds host_view l.hosts values
    × (each form.host l.i values (drop l.i (texts l.words.words.now))
    ≡ each form.host l.at [] (drop l.at (texts l.words.words.now)))
