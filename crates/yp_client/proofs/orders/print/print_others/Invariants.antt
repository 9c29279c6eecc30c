use Rattle.std.proofs.Common.{◌≤◌, take, Ok}
use Rattle.std.specs.Prelude.{flat_map}
use Rattle.yp_io.specs.declared.stream.Failed.{Failed}
use Rattle.yp_client.specs.inside.query.Printed.{Puts}
use Rattle.yp_client.specs.orders.Lines.{order_column}
use Rattle.yp_client.specs.inside.orders.Asked.{orders_list}
use Rattle.yp_client.proofs.orders.print.print_others.Given as goal

abbrev pub invariant-loop-orders : goal.invariant-loop-orders
invariant-loop-orders g l = record {
  puts : Puts {E = Failed} (flat_map (order_column l.number) (take l.orders-index (orders_list l.others)))
      (Ok tt) l.initial.text l.text (g.K.Sink.output l.initial.sink) (g.K.Sink.output l.sink);
  faults : g.K.Sink.faults l.initial.sink ≤ g.K.Sink.faults l.sink;
}
