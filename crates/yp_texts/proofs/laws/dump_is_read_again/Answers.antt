use Rattle.yp_texts.proofs.Dumping.{dump_is_read_again}
use Rattle.yp_texts.proofs.laws.dump_is_read_again.Goals as goal

pub returns : goal.returns
returns c = dump_is_read_again
