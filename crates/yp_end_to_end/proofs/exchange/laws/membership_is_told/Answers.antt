use Rattle.yp_end_to_end.proofs.exchange.Members.{membership_is_told}
use Rattle.yp_end_to_end.proofs.exchange.laws.membership_is_told.Goals as goal

pub returns : goal.returns
returns c = membership_is_told c.membership_is_decided.ensures
