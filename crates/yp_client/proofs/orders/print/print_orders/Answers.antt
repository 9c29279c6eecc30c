use Rattle.std.specs.Prelude.{flat_map}
use Rattle.std.proofs.lemmas.Result.{err_from_is_err_and}
use Rattle.yp_client.specs.orders.Lines.{order_column}
use Rattle.yp_client.specs.inside.orders.Asked.{comparison_view}
use Rattle.yp_client.proofs.query.Putting.{puts_more, puts_stopped}
use Rattle.yp_client.proofs.orders.print.print_orders.Goals as goal

pub returns-in_err-print_order-clause-puts : goal.returns-in_err-print_order-clause-puts
returns-in_err-print_order-clause-puts g c =
    let view = comparison_view c.args.comparison.now in
    let column = order_column c.args.number in
    let p = err_from_is_err_and c.from_residual.result c.from_residual.ensures.1 in
    puts_stopped (column view.survey.orders) (flat_map column view.others) c.from_residual.result p.0 _ _ _ _ p.1
    (rw c.deref.ensures.value at c.in_err-print_order.ensures.puts)

pub returns-clause-puts : goal.returns-clause-puts
returns-clause-puts g c =
    let view = comparison_view c.args.comparison.now in
    let column = order_column c.args.number in
    puts_more (column view.survey.orders) (flat_map column view.others) c.print_others.result _ _ _ _ _ _
    (rw c.deref.ensures.value at c.in_ok-print_order.ensures.puts)
    (rw c.deref-2.ensures.value at c.print_others.ensures.puts)
