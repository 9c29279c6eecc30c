use Rattle.yp_end_to_end.proofs.transfer.Between.{front_is_served}
use Rattle.yp_end_to_end.proofs.transfer.laws.front_is_served.Goals as goal

pub returns : goal.returns
returns c = front_is_served
