use Rattle.std.proofs.Common.{◌++◌}
use Rattle.std.proofs.lemmas.Result.{err_from_is_err_and}
use Rattle.yp_client.proofs.Waiting.{no_piece_earlier}
use Rattle.yp_client.proofs.all.AllReply.read.Goals as goal

pub returns-in_err-skip-clause-cause : goal.returns-in_err-skip-clause-cause
returns-in_err-skip-clause-cause g c =
    let p = err_from_is_err_and c.from_residual-in_err-skip.result c.from_residual-in_err-skip.ensures.1 in
    rw (p.1, p.2) (no_piece_earlier _ (g.S.Source.faults c.args.source.now)
    (g.S.Source.faults c.read_rows.new.source) _ _ _ _ c.read_rows.ensures.counted
    (c.in_err-skip.ensures.cause _ _ _ c.in_ok-said.ensures.says.reached))

pub returns-clause-says : goal.returns-clause-says
returns-clause-says g c =
    let says = c.in_ok-said.ensures.says in
    let skipped = c.in_ok-skip.ensures.more in
    let taken = skipped.2 _ _ _ says.reached in
    (says.front ++ skipped.0, taken.0, (c.read_rows.new.self.rows, says.said skipped.0 skipped.1))

pub returns-clause-between : goal.returns-clause-between
returns-clause-between g c = (c.in_ok-skip.ensures.more.2 _ _ _ c.in_ok-said.ensures.says.reached).1
