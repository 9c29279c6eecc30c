use Rattle.yp_end_to_end.proofs.walk.Delivering.{delivered_is_whole}
use Rattle.yp_end_to_end.proofs.walk.laws.delivered_is_whole.Goals as goal

pub returns : goal.returns
returns c = delivered_is_whole c.heard_is_in_turn.ensures c.shown_is_walked.ensures c.happened_is_delivered.ensures
