use Rattle.std.proofs.Common.{[], ◌∷◌, Some, None, decimal, codes, sym, ap}
use Rattle.std.specs.Prelude.{slice_index_or}
use Rattle.std.proofs.lemmas.Result.{err_from_is_err_and}
use Rattle.yp_client.specs.orders.Lines.{order_text}
use Rattle.yp_client.proofs.query.Putting.{puts_more, puts_stopped}
use Rattle.yp_client.proofs.orders.print.print_order.Goals as goal

pub returns-in_err-put-clause-puts : goal.returns-in_err-put-clause-puts
returns-in_err-put-clause-puts g c =
    let p = err_from_is_err_and c.from_residual.result c.from_residual.ensures.1 in
    puts_stopped (32 ∷ []) (order_text (slice_index_or c.args.orders.now c.args.number None)) c.from_residual.result p.0
    _ _ _ _ p.1 c.in_err-put.ensures.puts

pub returns-in-Some-clause-puts : goal.returns-in-Some-clause-puts
returns-in-Some-clause-puts g c =
    let put = rw (c.as_bytes.ensures.value, c.format.ensures.text, c.number.ensures.number) at c.put-in-Some.ensures.puts in
    rw (← c.in-Some.ensures)
    (puts_more (32 ∷ []) (decimal c.in-Some.order) c.put-in-Some.result _ _ _ _ _ _ c.in_ok-put.ensures.puts put)

pub returns-in-None-clause-puts : goal.returns-in-None-clause-puts
returns-in-None-clause-puts g c =
    rw (← c.in-None.ensures)
    (puts_more (32 ∷ []) (codes "none") c.put-in-None.result _ _ _ _ _ _ c.in_ok-put.ensures.puts c.put-in-None.ensures.puts)
