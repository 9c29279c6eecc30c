use Rattle.std.proofs.Common.{◌≡◌, take}
use Rattle.std.specs.Prelude.{map}
use Rattle.yp_io.specs.Dials.{dialing_of}
use Rattle.yp_client.specs.orders.InTurn.{EachMade}
use Rattle.yp_client.specs.orders.Asked.{AsksOther}
use Rattle.yp_client.specs.inside.orders.Asked.{mastered_view, orders_view}
use Rattle.yp_client.proofs.orders.dialed.dial_others.Given as goal

abbrev pub invariant-loop-other : goal.invariant-loop-other
invariant-loop-other g l = record {
  made : EachMade (AsksOther l.domain (map mastered_view l.maps)) (take l.other-index l.others) (orders_view l.columns)
      (dialing_of g.A.Dial.past g.A.Dial.faults l.initial.dial) (dialing_of g.A.Dial.past g.A.Dial.faults l.dial);
  letters : g.A.Dial.letters l.dial ≡ g.A.Dial.letters l.initial.dial;
}
