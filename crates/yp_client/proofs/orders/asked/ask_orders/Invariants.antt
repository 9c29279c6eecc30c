use Rattle.std.proofs.Common.{take}
use Rattle.std.specs.Prelude.{map}
use Rattle.yp_client.specs.inside.States.{state_of}
use Rattle.yp_client.specs.orders.InTurn.{EachMade}
use Rattle.yp_client.specs.orders.Asked.{TellsOrder}
use Rattle.yp_client.specs.inside.orders.Asked.{mastered_view}
use Rattle.yp_client.proofs.orders.asked.ask_orders.Given as goal

abbrev pub invariant-loop-map : goal.invariant-loop-map
invariant-loop-map g l =
    EachMade (TellsOrder l.domain) (take l.map-index (map mastered_view l.maps)) l.orders.items
    (state_of g.S.Source g.K.Sink l.initial.client) (state_of g.S.Source g.K.Sink l.client)
