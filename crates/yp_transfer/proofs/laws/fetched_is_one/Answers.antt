use Rattle.yp_transfer.proofs.OneOutcome.{one_outcome}
use Rattle.yp_transfer.proofs.laws.fetched_is_one.Goals as goal

pub returns : goal.returns
returns c = one_outcome (record {
  first = c.first_is_one.ensures;
  rest = c.rest_is_not_whole.ensures;
  torn = c.rest_is_one_kind.ensures.torn_is_not_long;
  long = c.rest_is_one_kind.ensures.long_is_some;
})
