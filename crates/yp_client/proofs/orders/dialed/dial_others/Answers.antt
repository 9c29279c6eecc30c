use Rattle.std.proofs.Common.{◌≡◌, ◌+◌, ◌∷◌, [], ◌++◌, take, List, map, sym, subst, ◌∙◌}
use Rattle.std.proofs.lemmas.Result.{err_from_is_err_and}
use Rattle.yp_io.specs.Dials.{dialing_of}
use Rattle.yp_client.specs.orders.InTurn.{EachMade}
use Rattle.yp_client.specs.orders.Asked.{Orders, TellsOrders, AsksOther}
use Rattle.yp_client.specs.inside.orders.Asked.{mastered_view, orders_view}
use Rattle.yp_client.proofs.orders.Turns.{pushed, stop_told, other_next, other_stops, other_forgone}
use Rattle.yp_client.proofs.orders.dialed.dial_others.Goals as goal

pub loop-other-preserved : goal.loop-other-preserved
loop-other-preserved g c =
    let dial = dialing_of g.A.Dial.past g.A.Dial.faults in
    let maps = map mastered_view c.args.maps.now in
    let others = c.args.others.now in
    let i = c.loop-other.other-index in
    let columns = orders_view c.loop-other.columns in
    let value : Orders = c.in_ok-orders.orders.items in
    let more : orders_view c.push.new.self ≡ columns ++ value ∷ [] =
    pushed (λ orders. orders.items) c.loop-other.columns.items c.push.new.self.items c.in_ok-orders.orders c.in-Ok.ensures.items in
    record {
      made = subst (λ (l : List Orders). EachMade (AsksOther c.args.domain.now maps) (take (i + 1) others) l (dial c.args.dial.now) (dial c.dial_other.new.dial))
          (sym more) (other_next (TellsOrders c.args.domain.now maps) others i _ columns (dial c.args.dial.now)
          (dial c.loop-other.dial) (dial c.dial_other.new.dial) c.loop-other-test.true c.loop-other.invariant.made value
          c.in_ok-orders.ensures.dials);
      letters = c.in_ok-orders.ensures.letters ∙ c.loop-other.invariant.letters;
    }

pub returns-in_err-orders-clause-asks : goal.returns-in_err-orders-clause-asks
returns-in_err-orders-clause-asks g c =
    let dial = dialing_of g.A.Dial.past g.A.Dial.faults in
    let maps = map mastered_view c.args.maps.now in
    let others = c.args.others.now in
    let i = c.loop-other.other-index in
    let p = err_from_is_err_and c.from_residual.result c.from_residual.ensures.1 in
    stop_told (AsksOther c.args.domain.now maps) others orders_view c.from_residual.result p.0 c.in_err-orders.field-0.0
    (dial c.args.dial.now) (dial c.dial_other.new.dial) p.1 p.2
    (other_stops (TellsOrders c.args.domain.now maps) others i _ (orders_view c.loop-other.columns) (dial c.args.dial.now)
    (dial c.loop-other.dial) (dial c.dial_other.new.dial) c.loop-other-test.true c.loop-other.invariant.made
    c.in_err-orders.field-0.0 c.in_err-orders.ensures.dials)

pub returns-in_default-clause-asks : goal.returns-in_default-clause-asks
returns-in_default-clause-asks g c =
    let dial = dialing_of g.A.Dial.past g.A.Dial.faults in
    let maps = map mastered_view c.args.maps.now in
    let others = c.args.others.now in
    let i = c.loop-other.other-index in
    other_forgone (TellsOrders c.args.domain.now maps) others i _ (orders_view c.loop-other.columns) (dial c.args.dial.now)
    (dial c.loop-other.dial) (dial c.dial_other.new.dial) c.loop-other-test.true c.loop-other.invariant.made
    c.in_ok-orders.orders.items c.in_ok-orders.ensures.dials
