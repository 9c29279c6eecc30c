use Rattle.std.proofs.Common.{◌≡◌, List, [], drop}
use Rattle.yp_command.specs.Forms as form
use Rattle.yp_command.specs.Words.{each, row_view, texts}
use Rattle.yp_command.specs.inside.Words.{Holds}
use Rattle.yp_command.proofs.further.each_pair.Given as goal

abbrev pub invariant-loop-i : goal.invariant-loop-i
invariant-loop-i l =
    (values : List _) × Holds row_view l.rows values
    × (each form.pair l.i values (drop l.i (texts l.words.words.now))
    ≡ each form.pair l.at [] (drop l.at (texts l.words.words.now)))
