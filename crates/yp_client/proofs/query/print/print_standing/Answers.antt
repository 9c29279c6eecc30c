use Rattle.std.proofs.Common.{◌++◌, codes, decimal}
use Rattle.std.proofs.lemmas.Result.{err_from_is_err_and}
use Rattle.yp_client.specs.query.Lines.{line}
use Rattle.yp_client.proofs.query.Putting.{puts_more, puts_stopped}
use Rattle.yp_client.proofs.query.print.print_standing.Goals as goal

pub returns-in_err-put_pair-clause-puts : goal.returns-in_err-put_pair-clause-puts
returns-in_err-put_pair-clause-puts g c =
    let order = line (codes "order " ++ decimal c.args.order) in
    let master = line (codes "master " ++ c.args.master.now) in
    let p = err_from_is_err_and c.from_residual.result c.from_residual.ensures.1 in
    let put = rw (c.as_bytes.ensures.value, c.format.ensures.text, c.number.ensures.number) at c.in_err-put_pair.ensures.puts in
    puts_stopped order master c.from_residual.result p.0 _ _ _ _ p.1 put

pub returns-clause-puts : goal.returns-clause-puts
returns-clause-puts g c =
    let order = line (codes "order " ++ decimal c.args.order) in
    let master = line (codes "master " ++ c.args.master.now) in
    let put = rw (c.as_bytes.ensures.value, c.format.ensures.text, c.number.ensures.number) at c.in_ok-put_pair.ensures.puts in
    puts_more order master c.put_pair-2.result _ _ _ _ _ _ put c.put_pair-2.ensures.puts
