use Rattle.std.proofs.Common.{take}
use Rattle.yp_client.specs.inside.States.{state_of}
use Rattle.yp_client.specs.orders.InTurn.{EachMade}
use Rattle.yp_client.specs.orders.Asked.{TellsMaster}
use Rattle.yp_client.specs.inside.orders.Asked.{masters_view, HasShortNames}
use Rattle.yp_client.proofs.orders.asked.ask_masters.Given as goal

abbrev pub invariant-loop-i : goal.invariant-loop-i
invariant-loop-i g l = record {
  made : EachMade (TellsMaster l.domain) (take l.i l.names) (masters_view l.maps)
      (state_of g.S.Source g.K.Sink l.initial.client) (state_of g.S.Source g.K.Sink l.client);
  short : HasShortNames (masters_view l.maps);
}
