use Rattle.yp_rpc.proofs.Again.{reply_again}
use Rattle.yp_rpc.proofs.laws.reply_is_read_again.Goals as goal

pub returns : goal.returns
returns c = reply_again c.written_is_read_again.ensures
