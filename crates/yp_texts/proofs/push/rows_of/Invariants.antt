use Rattle.std.proofs.Common.{◌+◌, ◌≤◌, length}
use Rattle.yp_texts.specs.Rows.{rows_from, rows}
use Rattle.yp_texts.specs.inside.Pushes.{Pushed}
use Rattle.yp_texts.proofs.push.rows_of.Given as goal

abbrev pub invariant-loop-rest : goal.invariant-loop-rest
invariant-loop-rest l = record {
  numbers : l.number + length l.rest ≤ 1 + length l.text;
  pushed : Pushed l.initial.into (rows l.reading l.text) (rows_from l.reading l.number l.rest) l.into;
}

abbrev pub decreases-loop-rest : goal.decreases-loop-rest
decreases-loop-rest l = length l.rest
