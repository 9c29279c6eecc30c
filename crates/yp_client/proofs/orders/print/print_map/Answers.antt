use Rattle.std.proofs.Common.{[], ◌∷◌}
use Rattle.std.proofs.lemmas.Result.{err_from_is_err_and}
use Rattle.yp_client.proofs.query.Putting.{puts_more, puts_stopped}
use Rattle.yp_client.proofs.orders.print.print_map.Goals as goal

pub returns-in_err-put-2-clause-puts : goal.returns-in_err-put-2-clause-puts
returns-in_err-put-2-clause-puts g c =
    let name = c.args.map.now.name.items in
    let master = c.args.map.now.master.items in
    let stop = c.from_residual-in_err-put-2 in
    let p = err_from_is_err_and stop.result stop.ensures.1 in
    puts_more name (32 ∷ master) stop.result _ c.put.new.self _ _ _ _ (rw c.deref.ensures.value at c.in_ok-put.ensures.puts)
    (puts_stopped (32 ∷ []) master stop.result p.0 _ _ _ _ p.1 c.in_err-put-2.ensures.puts)

pub returns-clause-puts : goal.returns-clause-puts
returns-clause-puts g c =
    let name = c.args.map.now.name.items in
    let master = c.args.map.now.master.items in
    puts_more name (32 ∷ master) c.put-3.result _ _ _ _ _ _ (rw c.deref.ensures.value at c.in_ok-put.ensures.puts)
    (puts_more (32 ∷ []) master c.put-3.result _ _ _ _ _ _ c.in_ok-put-2.ensures.puts
    (rw c.deref-2.ensures.value at c.put-3.ensures.puts))
