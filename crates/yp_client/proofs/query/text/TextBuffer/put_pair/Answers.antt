use Rattle.std.proofs.Common.{[], ◌∷◌, append_assoc}
use Rattle.std.proofs.lemmas.Result.{err_from_is_err_and}
use Rattle.yp_client.specs.query.Lines.{line}
use Rattle.yp_client.proofs.query.Putting.{puts_more, puts_stopped}
use Rattle.yp_client.proofs.query.text.TextBuffer.put_pair.Goals as goal

pub returns-in_err-put-clause-puts : goal.returns-in_err-put-clause-puts
returns-in_err-put-clause-puts g c =
    let first = c.args.first.now in
    let second = c.args.second.now in
    let p = err_from_is_err_and c.from_residual.result c.from_residual.ensures.1 in
    rw (append_assoc first (32 ∷ second) (10 ∷ []))
    (puts_stopped first (32 ∷ line second) c.from_residual.result p.0 _ _ _ _ p.1 c.in_err-put.ensures.puts)

pub returns-in_err-put-2-clause-puts : goal.returns-in_err-put-2-clause-puts
returns-in_err-put-2-clause-puts g c =
    let first = c.args.first.now in
    let second = c.args.second.now in
    let stop = c.from_residual-in_err-put-2 in
    let p = err_from_is_err_and stop.result stop.ensures.1 in
    rw (append_assoc first (32 ∷ second) (10 ∷ []))
    (puts_more first (32 ∷ line second) stop.result _ c.put.new.self _ _ _ _ c.in_ok-put.ensures.puts
    (puts_stopped (32 ∷ []) (line second) stop.result p.0 _ _ _ _ p.1 c.in_err-put-2.ensures.puts))

pub returns-clause-puts : goal.returns-clause-puts
returns-clause-puts g c =
    let first = c.args.first.now in
    let second = c.args.second.now in
    rw (append_assoc first (32 ∷ second) (10 ∷ []))
    (puts_more first (32 ∷ line second) c.put_line.result _ _ _ _ _ _ c.in_ok-put.ensures.puts
    (puts_more (32 ∷ []) (line second) c.put_line.result _ _ _ _ _ _ c.in_ok-put-2.ensures.puts
    c.put_line.ensures.puts))
