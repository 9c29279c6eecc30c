use Rattle.std.proofs.Common.{[], ◌∷◌, ◌++◌, append_assoc}
use Rattle.std.specs.Prelude.{flat_map}
use Rattle.std.proofs.lemmas.Result.{err_from_is_err_and}
use Rattle.yp_client.specs.orders.Lines.{order_column}
use Rattle.yp_client.specs.inside.orders.Asked.{comparison_view}
use Rattle.yp_client.proofs.query.Putting.{puts_more, puts_stopped}
use Rattle.yp_client.proofs.orders.print.print_line.Goals as goal

pub returns-in_err-print_map-clause-puts : goal.returns-in_err-print_map-clause-puts
returns-in_err-print_map-clause-puts g c =
    let view = comparison_view c.args.comparison.now in
    let column = order_column c.args.number in
    let name = c.args.map.now.name.items ++ 32 ∷ c.args.map.now.master.items in
    let orders = column view.survey.orders ++ flat_map column view.others in
    let p = err_from_is_err_and c.from_residual.result c.from_residual.ensures.1 in
    rw (append_assoc name orders (10 ∷ []))
    (puts_stopped name (orders ++ 10 ∷ []) c.from_residual.result p.0 _ _ _ _ p.1 c.in_err-print_map.ensures.puts)

pub returns-in_err-print_orders-clause-puts : goal.returns-in_err-print_orders-clause-puts
returns-in_err-print_orders-clause-puts g c =
    let view = comparison_view c.args.comparison.now in
    let column = order_column c.args.number in
    let name = c.args.map.now.name.items ++ 32 ∷ c.args.map.now.master.items in
    let orders = column view.survey.orders ++ flat_map column view.others in
    let stop = c.from_residual-in_err-print_orders in
    let p = err_from_is_err_and stop.result stop.ensures.1 in
    rw (append_assoc name orders (10 ∷ []))
    (puts_more name (orders ++ 10 ∷ []) stop.result _ _ _ _ _ _ c.in_ok-print_map.ensures.puts
    (puts_stopped orders (10 ∷ []) stop.result p.0 _ _ _ _ p.1 c.in_err-print_orders.ensures.puts))

pub returns-clause-puts : goal.returns-clause-puts
returns-clause-puts g c =
    let view = comparison_view c.args.comparison.now in
    let column = order_column c.args.number in
    let name = c.args.map.now.name.items ++ 32 ∷ c.args.map.now.master.items in
    let orders = column view.survey.orders ++ flat_map column view.others in
    rw (append_assoc name orders (10 ∷ []))
    (puts_more name (orders ++ 10 ∷ []) c.put.result _ _ _ _ _ _ c.in_ok-print_map.ensures.puts
    (puts_more orders (10 ∷ []) c.put.result _ _ _ _ _ _ c.in_ok-print_orders.ensures.puts c.put.ensures.puts))
