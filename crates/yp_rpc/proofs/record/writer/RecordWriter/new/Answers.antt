use Rattle.yp_rpc.proofs.Holding.{idle}
use Rattle.yp_rpc.proofs.record.writer.RecordWriter.new.Goals as goal

pub returns : goal.returns
returns c = idle c.in_ok-batch.batch c.in_ok-batch.ensures
