use Rattle.yp_rpc.proofs.Holding.{put_sent, put_part, idle_err}
use Rattle.yp_rpc.proofs.record.writer.RecordWriter.put.Goals as goal

pub returns-clause-sent : goal.returns-clause-sent
returns-clause-sent g c =
    put_sent c.put_all.result _ _ c.self.inside.batch c.put_all.new.batch c.args.self.now c.args.piece.now
    c.self.view_is c.self.invariant c.put_all.ensures.rests c.put_all.ensures.sent c.put_all.ensures.pending

pub returns-clause-prefix : goal.returns-clause-prefix
returns-clause-prefix g c =
    put_part c.put_all.result _ _ c.self.inside.batch c.args.self.now c.args.piece.now c.self.view_is c.self.invariant
    c.put_all.ensures.some c.put_all.ensures.prefix

pub returns-clause-as_new : goal.returns-clause-as_new
returns-clause-as_new g c = idle_err c.put_all.result c.put_all.new.batch c.put_all.ensures.as_new
