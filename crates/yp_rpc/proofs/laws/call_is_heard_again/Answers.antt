use Rattle.yp_rpc.proofs.Again.{call_again}
use Rattle.yp_rpc.proofs.laws.call_is_heard_again.Goals as goal

pub returns : goal.returns
returns c = call_again c.written_is_read_again.ensures
