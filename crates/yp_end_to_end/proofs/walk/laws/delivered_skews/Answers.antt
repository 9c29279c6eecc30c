use Rattle.yp_end_to_end.proofs.walk.Delivering.{delivered_skews}
use Rattle.yp_end_to_end.proofs.walk.laws.delivered_skews.Goals as goal

pub returns : goal.returns
returns c = delivered_skews c.heard_is_in_turn.ensures c.skew_is_shown.ensures c.happened_is_delivered.ensures
