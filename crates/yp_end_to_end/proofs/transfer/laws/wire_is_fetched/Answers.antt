use Rattle.yp_end_to_end.proofs.transfer.Sourcing.{wire_is_fetched}
use Rattle.yp_end_to_end.proofs.transfer.laws.wire_is_fetched.Goals as goal

pub returns : goal.returns
returns c = wire_is_fetched
