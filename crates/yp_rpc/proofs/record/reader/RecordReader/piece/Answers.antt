use Rattle.std.proofs.lemmas.Result.{err_from_is_err_and}
use Rattle.yp_rpc.proofs.record.reader.RecordReader.piece.Goals as goal

pub returns-in_err-given-clause-cause : goal.returns-in_err-given-clause-cause
returns-in_err-given-clause-cause g c =
    let p = err_from_is_err_and c.from_residual.result c.from_residual.ensures.1 in
    rw (p.1, p.2, ← c.self.view_is) (λ front start given. c.in_err-given.ensures.cause front start given)
