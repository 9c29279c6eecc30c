use Rattle.std.proofs.Common.{map, length}
use Rattle.yp_texts.specs.Words.{words}
use Rattle.yp_texts.specs.Rows.{at_line, name_rows}
use Rattle.yp_texts.specs.inside.Pushes.{Pushed}
use Rattle.yp_texts.proofs.push.push_names.Given as goal

abbrev pub invariant-loop-name : goal.invariant-loop-name
invariant-loop-name l = Pushed l.initial.into (at_line l.number (name_rows l.line))
    (at_line l.number (map (λ word. (word, l.line)) (words l.rest))) l.into

abbrev pub decreases-loop-name : goal.decreases-loop-name
decreases-loop-name l = length l.rest
