use Rattle.std.proofs.Common.{◌≡◌, ◌+◌, ◌++◌, take, drop, slice_get, Ok, Some, arith}
use Rattle.std.specs.Prelude.{flat_map}
use Rattle.std.proofs.lemmas.Result.{err_from_is_err_and}
use Rattle.yp_io.specs.declared.stream.Failed.{Failed}
use Rattle.yp_client.specs.orders.Lines.{order_column}
use Rattle.yp_client.specs.orders.Asked.{Orders}
use Rattle.yp_client.specs.inside.orders.Asked.{orders_list}
use Rattle.yp_client.proofs.query.Putting.{puts_more, puts_stopped}
use Rattle.yp_client.proofs.query.Listing.{flat_map-next, flat_map-split}
use Rattle.yp_client.proofs.orders.Turns.{viewed}
use Rattle.yp_client.proofs.orders.print.print_others.Goals as goal

pub returns-in_err-print_order-clause-puts : goal.returns-in_err-print_order-clause-puts
returns-in_err-print_order-clause-puts g c =
    let lists = orders_list c.args.others.now in
    let column = order_column c.args.number in
    let i = c.loop-orders.orders-index in
    let orders : Orders = c.orders-item.result.items in
    let there : slice_get lists i ≡ Some orders =
    viewed (λ l. l.items) c.args.others.now i c.orders-item.result c.loop-orders-test.true c.orders-item.is in
    let rest = flat_map column (drop (i + 1) lists) in
    let p = err_from_is_err_and c.from_residual.result c.from_residual.ensures.1 in
    rw (flat_map-split column lists i orders there)
    (puts_more (flat_map column (take i lists))
    (column orders ++ rest) c.from_residual.result _ c.loop-orders.text _ _ _ _ c.loop-orders.invariant.puts
    (puts_stopped (column orders) rest c.from_residual.result p.0 _ _ _ _ p.1
    (rw c.deref.ensures.value at c.in_err-print_order.ensures.puts)))

pub loop-orders-preserved : goal.loop-orders-preserved
loop-orders-preserved g c =
    let lists = orders_list c.args.others.now in
    let column = order_column c.args.number in
    let i = c.loop-orders.orders-index in
    let orders : Orders = c.orders-item.result.items in
    let there : slice_get lists i ≡ Some orders =
    viewed (λ l. l.items) c.args.others.now i c.orders-item.result c.loop-orders-test.true c.orders-item.is in
    let output = g.K.Sink.output in
    record {
      puts = rw (flat_map-next column lists i orders there)
          (puts_more {E = Failed} (flat_map column (take i lists)) (column orders)
          (Ok tt) c.args.text.now c.loop-orders.text c.print_order.new.text (output c.args.sink.now)
          (output c.loop-orders.sink) (output c.print_order.new.sink) c.loop-orders.invariant.puts
          (rw c.deref.ensures.value at c.in_ok-print_order.ensures.puts));
      faults = omega (arith, c.loop-orders.invariant.faults, c.in_ok-print_order.ensures.cause.never_falls);
    }
