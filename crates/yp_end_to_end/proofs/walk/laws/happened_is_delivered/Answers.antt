use Rattle.yp_end_to_end.proofs.walk.Delivering.{happened_is_delivered}
use Rattle.yp_end_to_end.proofs.walk.laws.happened_is_delivered.Goals as goal

pub returns : goal.returns
returns c = happened_is_delivered
