use Rattle.std.proofs.Common.{◌≡◌, ◌≤◌, ◌+◌, ◌∷◌, [], ◌++◌, length, take, List, Option, Some, slice_get, map, sym, subst}
use Rattle.std.proofs.lemmas.Result.{err_from_is_err_and}
use Rattle.yp_messages.specs.Numbers.{name_max}
use Rattle.yp_client.specs.inside.States.{state_of}
use Rattle.yp_client.specs.declared.query.fault.QueryFault.TheVariants.{NoMemory}
use Rattle.yp_client.specs.orders.InTurn.{EachMade}
use Rattle.yp_client.specs.orders.Asked.{Mastered, TellsOrder}
use Rattle.yp_client.specs.inside.orders.Asked.{mastered_view}
use Rattle.yp_client.proofs.orders.Turns.{made_next, stops_next, one_of_all, viewed, stop_told, call_forgone}
use Rattle.yp_client.proofs.orders.asked.ask_orders.Goals as goal

pub ask_order-requires-clause-map : goal.ask_order-requires-clause-map
ask_order-requires-clause-map g c =
    let maps = map mastered_view c.args.maps.now in
    let there : slice_get maps c.loop-map.map-index ≡ Some (mastered_view c.map-item.result) =
    viewed mastered_view c.args.maps.now c.loop-map.map-index c.map-item.result c.loop-map-test.true c.map-item.is in
    one_of_all (λ (m : Mastered). length m.0 ≤ name_max) maps c.loop-map.map-index (mastered_view c.map-item.result)
    c.requires.maps there

pub loop-map-preserved : goal.loop-map-preserved
loop-map-preserved g c =
    let state = state_of g.S.Source g.K.Sink in
    let step = TellsOrder c.args.domain.now in
    let maps = map mastered_view c.args.maps.now in
    let i = c.loop-map.map-index in
    let value : Mastered = mastered_view c.map-item.result in
    let there : slice_get maps i ≡ Some value =
    viewed mastered_view c.args.maps.now i c.map-item.result c.loop-map-test.true c.map-item.is in
    let orders = c.loop-map.orders.items in
    subst (λ (l : List (Option _)). EachMade step (take (i + 1) maps) l (state c.args.client.now) (state c.ask_order.new.client))
    (sym c.in-Ok.ensures.items)
    (made_next step maps i value orders c.in_ok-order.order (state c.args.client.now) (state c.loop-map.client)
    (state c.ask_order.new.client) there c.loop-map.invariant c.in_ok-order.ensures)

pub returns-in_err-order : goal.returns-in_err-order
returns-in_err-order g c =
    let state = state_of g.S.Source g.K.Sink in
    let step = TellsOrder c.args.domain.now in
    let maps = map mastered_view c.args.maps.now in
    let i = c.loop-map.map-index in
    let value : Mastered = mastered_view c.map-item.result in
    let there : slice_get maps i ≡ Some value =
    viewed mastered_view c.args.maps.now i c.map-item.result c.loop-map-test.true c.map-item.is in
    let p = err_from_is_err_and c.from_residual.result c.from_residual.ensures.1 in
    stop_told step maps (λ orders. orders.items) c.from_residual.result p.0 c.in_err-order.field-0.0
    (state c.args.client.now) (state c.ask_order.new.client) p.1 p.2
    (stops_next step maps i value c.loop-map.orders.items c.in_err-order.field-0.0 (state c.args.client.now)
    (state c.loop-map.client) (state c.ask_order.new.client) there c.loop-map.invariant c.in_err-order.ensures)

pub returns-in_default : goal.returns-in_default
returns-in_default g c =
    let state = state_of g.S.Source g.K.Sink in
    let maps = map mastered_view c.args.maps.now in
    let i = c.loop-map.map-index in
    let value : Mastered = mastered_view c.map-item.result in
    let there : slice_get maps i ≡ Some value =
    viewed mastered_view c.args.maps.now i c.map-item.result c.loop-map-test.true c.map-item.is in
    stops_next (TellsOrder c.args.domain.now) maps i value c.loop-map.orders.items NoMemory (state c.args.client.now)
    (state c.loop-map.client) (state c.ask_order.new.client) there c.loop-map.invariant
    (call_forgone _ _ _ _ _ _ _ c.in_ok-order.ensures)
