use Rattle.std.proofs.Common.{◌≡◌, ◌+◌, ◌<◌, cond, [], Some, map, length, take, drop, get_or, sym, ap, ◌∙◌}
use Rattle.std.specs.List.{list_any}
use Rattle.std.proofs.lemmas.List.{get_or-map, take-map, length-map}
use Rattle.yp_board.specs.Catalogues.{name_view, is_same}
use Rattle.yp_board.specs.inside.Catalogues.{again_from}
use Rattle.yp_board.proofs.Again.{again_from-drop, again_from-end}
use Rattle.yp_board.proofs.faults.twice.Goals as goal
use Rattle.yp_board.proofs.faults.twice.Goals.{After-is_among}

step : (c : After-is_among) → again_from 0 [] (map name_view c.with_numbers-names.result.now)
    ≡ cond c.is_among.result (Some c.loop-index.index)
    (again_from (c.loop-index.index + 1)
    (take (c.loop-index.index + 1) (map name_view c.with_numbers-names.result.now))
    (drop (c.loop-index.index + 1) (map name_view c.with_numbers-names.result.now)))
step c =
    let xs = c.with_numbers-names.result.now in
    let names = map name_view xs in
    let i = c.loop-index.index in
    let x = c.index-names-index.result in
    let d = name_view x in
    let here : get_or names i d ≡ d = get_or-map name_view xs i x d c.loop-index-test.true
    ∙ ap name_view (sym c.index-names-index.is) in
    let among : c.is_among.result ≡ list_any (is_same (get_or names i d)) (take i names) =
    rw (here, take-map name_view i xs) c.is_among.ensures in
    let within : i < length names = rw (length-map xs name_view) c.loop-index-test.true in
    sym c.loop-index.invariant
    ∙ again_from-drop names i d within
    ∙ ap (λ b. cond b (Some i) (again_from (i + 1) (take (i + 1) names) (drop (i + 1) names))) (sym among)

pub returns-then-is_among : goal.returns-then-is_among
returns-then-is_among c =
    let e = rw c.if-is_among.true at (step (goal.at.returns-then-is_among c).After-is_among) in
    sym e ∙ ap (again_from 0 []) c.with_numbers-names.ensures.names

pub returns : goal.returns
returns c =
    let xs = c.with_numbers-names.result.now in
    let names = map name_view xs in
    let i = c.loop-index.index in
    let past = again_from-end names i (rw (length-map xs name_view) c.loop-index-test.false) in
    sym past ∙ c.loop-index.invariant ∙ ap (again_from 0 []) c.with_numbers-names.ensures.names

pub loop-index-preserved : goal.loop-index-preserved
loop-index-preserved c =
    sym (rw c.if-is_among.false at (step (goal.at.loop-index-preserved c).After-is_among))
