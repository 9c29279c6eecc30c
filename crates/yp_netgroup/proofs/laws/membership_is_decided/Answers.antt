use Rattle.yp_netgroup.proofs.Deciding.{membership_is_decided}
use Rattle.yp_netgroup.proofs.laws.membership_is_decided.Goals as goal

pub returns : goal.returns
returns c = membership_is_decided
