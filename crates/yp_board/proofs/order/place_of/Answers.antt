use Rattle.std.proofs.Common.{◌≡◌, ◌<◌, [], map, length, get_or, slice_index_or, sym, ap, ◌∙◌, arith, below_more}
use Rattle.std.specs.Ordering.{is_le}
use Rattle.std.proofs.lemmas.List.{get_or-map}
use Rattle.std.proofs.lemmas.List.Sums.{position_or_len_is}
use Rattle.yp_board.specs.Catalogues.{name_view, name_cmp}
use Rattle.yp_board.proofs.order.place_of.Goals as goal
use Rattle.yp_board.proofs.order.place_of.Goals.{After-is_le}

told : (c : After-is_le)
    → is_le (name_cmp (name_view c.args.name.now)
    (slice_index_or (map name_view c.args.maps.now) (slice_index_or c.args.numbers.now c.loop-place.place 0)
    ([], []))) ≡ c.is_le.result
told c =
    let maps = c.args.maps.now in
    let number = get_or c.args.numbers.now c.loop-place.place 0 in
    let x = c.index-maps-number.result in
    let within : number < length maps = c.requires c.loop-place.place 0 c.loop-place-test.true in
    let here : get_or (map name_view maps) number ([], []) ≡ name_view x =
    get_or-map name_view maps number x ([], []) within ∙ ap name_view (sym c.index-maps-number.is) in
    rw here (ap is_le (sym c.name_order.ensures) ∙ sym c.is_le.ensures)

pub returns-then-is_le-clause-place : goal.returns-then-is_le-clause-place
returns-then-is_le-clause-place c =
    let t = told (goal.at.returns-then-is_le-clause-place c).After-is_le in
    sym (position_or_len_is _ c.args.numbers.now c.loop-place.place 0 (omega arith) c.loop-place.invariant (λ h. t
    ∙ c.if-is_le.true))

pub loop-place-preserved : goal.loop-place-preserved
loop-place-preserved c =
    let t = told (goal.at.loop-place-preserved c).After-is_le in
    below_more _ _ c.loop-place.invariant (t ∙ c.if-is_le.false)

pub returns-clause-place : goal.returns-clause-place
returns-clause-place c =
    let n = length c.args.numbers.now in
    sym (position_or_len_is _ c.args.numbers.now n 0 (omega arith) (λ k h. c.loop-place.invariant k (omega arith))
    (λ h. absurd (omega arith)))
