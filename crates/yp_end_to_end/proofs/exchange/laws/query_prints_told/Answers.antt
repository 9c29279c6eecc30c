use Rattle.yp_end_to_end.proofs.exchange.Asking.{query_prints_told}
use Rattle.yp_end_to_end.proofs.exchange.laws.query_prints_told.Goals as goal

pub returns : goal.returns
returns c = query_prints_told c.calls_are_told.ensures
