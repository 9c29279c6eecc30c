use Rattle.yp_io.proofs.Streams.{on_err, put_whole}
use Rattle.yp_io.proofs.stream.write_through.Goals as goal

pub returns-clause-prefix : goal.returns-clause-prefix
returns-clause-prefix g c =
    let text = c.args.piece.now in
    on_err c.flush.result (put_whole _ _ _ text c.in_ok-write_all.ensures.whole c.flush.ensures.bytes)
