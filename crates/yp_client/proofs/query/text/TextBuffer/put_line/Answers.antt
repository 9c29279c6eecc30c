use Rattle.std.proofs.Common.{[], ◌∷◌}
use Rattle.std.proofs.lemmas.Result.{err_from_is_err_and}
use Rattle.yp_client.proofs.query.Putting.{puts_more, puts_stopped}
use Rattle.yp_client.proofs.query.text.TextBuffer.put_line.Goals as goal

pub returns-in_err-put-clause-puts : goal.returns-in_err-put-clause-puts
returns-in_err-put-clause-puts g c =
    let p = err_from_is_err_and c.from_residual.result c.from_residual.ensures.1 in
    puts_stopped c.args.text.now (10 ∷ []) c.from_residual.result p.0 _ _ _ _ p.1 c.in_err-put.ensures.puts

pub returns-clause-puts : goal.returns-clause-puts
returns-clause-puts g c =
    puts_more c.args.text.now (10 ∷ []) c.put-2.result _ _ _ _ _ _ c.in_ok-put.ensures.puts c.put-2.ensures.puts
