use Rattle.yp_end_to_end.proofs.exchange.Alls.{all_tells}
use Rattle.yp_end_to_end.proofs.exchange.laws.all_tells.Goals as goal

pub returns : goal.returns
returns c = all_tells c.written_is_read_again.ensures c.call_is_heard_again.ensures c.rising_is_distinct.ensures
