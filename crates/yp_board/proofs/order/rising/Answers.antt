use Rattle.std.proofs.Common.{◌≡◌, ◌-◌, ◌<◌, [], map, length, drop, refl, sym, ap, ◌∙◌, arith}
use Rattle.std.specs.List.{position_or_len}
use Rattle.std.specs.Ordering.{is_le}
use Rattle.std.proofs.lemmas.List.{get_or-map, length-map, drop_all}
use Rattle.std.proofs.lemmas.List.Elements.{All-nil}
use Rattle.yp_board.specs.Catalogues.{name_view, name_cmp, listed}
use Rattle.yp_board.proofs.Rising.{name_at, listed-drop, All-insert}
use Rattle.yp_board.proofs.order.rising.Goals as goal

pub loop-number-init : goal.loop-number-init
loop-number-init c =
    let names = map name_view c.args.maps.now in
    record {
      within = rw c.in_ok-numbers.ensures.items (All-nil (λ number. number < length c.args.maps.now));
      rising = rw (
        c.in_ok-numbers.ensures.items,
        drop_all (length c.args.maps.now) names
            (omega (arith, length-map c.args.maps.now name_view)),
      ) refl;
    }

pub place_of-place-requires : goal.place_of-place-requires
place_of-place-requires c = rw c.deref.ensures.value c.loop-number.invariant.within

pub loop-number-preserved : goal.loop-number-preserved
loop-number-preserved c =
    let maps = c.args.maps.now in
    let names = map name_view maps in
    let n = c.loop-number.number - 1 in
    let x = c.index-maps-number.result in
    let numbers = c.loop-number.numbers.items in
    let place = c.place_of-place.result in
    let within : n < length maps = omega arith in
    let here : name_at names n ≡ name_view x = get_or-map name_view maps n x ([], []) within
    ∙ ap name_view (sym c.index-maps-number.is) in
    let at : place ≡ position_or_len (λ number. is_le (name_cmp (name_at names n) (name_at names number))) numbers
    = rw (here, ← c.deref.ensures.value) c.place_of-place.ensures.place in
    let e = listed-drop names n c.loop-number.number numbers place c.requires.distinct
    (omega (arith, length-map maps name_view)) (omega arith) c.loop-number.invariant.rising at in
    record {
      within = rw c.in_ok-insert.ensures.items
          (All-insert (λ number. number < length maps) numbers place n within c.loop-number.invariant.within);
      rising = ap (map (name_at names)) c.in_ok-insert.ensures.items ∙ e;
    }

pub returns-clause-within : goal.returns-clause-within
returns-clause-within c = c.loop-number.invariant.within

pub returns-clause-rising : goal.returns-clause-rising
returns-clause-rising c =
    let names = map name_view c.args.maps.now in
    let none : c.loop-number.number ≡ 0 = omega arith in
    c.loop-number.invariant.rising ∙ ap (λ k. listed (drop k names)) none
