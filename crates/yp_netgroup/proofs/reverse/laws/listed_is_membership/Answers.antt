use Rattle.yp_netgroup.proofs.reverse.Looking.{listed_is_membership}
use Rattle.yp_netgroup.proofs.reverse.laws.listed_is_membership.Goals as goal

pub returns : goal.returns
returns c = listed_is_membership
