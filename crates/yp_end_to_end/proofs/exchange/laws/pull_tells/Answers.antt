use Rattle.yp_end_to_end.proofs.exchange.LookUps.{pull_tells}
use Rattle.yp_end_to_end.proofs.exchange.laws.pull_tells.Goals as goal

pub returns : goal.returns
returns c = pull_tells c.written_is_read_again.ensures c.call_is_heard_again.ensures
