use Rattle.yp_end_to_end.proofs.walk.Delivering.{delivered_is_of_source}
use Rattle.yp_end_to_end.proofs.walk.laws.delivered_is_of_source.Goals as goal

pub returns : goal.returns
returns c = delivered_is_of_source c.heard_is_in_turn.ensures c.walked_is_shown.ensures c.happened_is_delivered.ensures c.rising_stays.ensures
