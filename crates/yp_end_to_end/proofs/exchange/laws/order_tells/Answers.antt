use Rattle.yp_end_to_end.proofs.exchange.LookUps.{order_tells}
use Rattle.yp_end_to_end.proofs.exchange.laws.order_tells.Goals as goal

pub returns : goal.returns
returns c = order_tells c.written_is_read_again.ensures c.call_is_heard_again.ensures
