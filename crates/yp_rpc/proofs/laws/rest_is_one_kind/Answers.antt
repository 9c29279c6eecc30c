use Rattle.yp_rpc.proofs.CutKinds.{torn_is_not_long, torn_is_some, long_is_some}
use Rattle.yp_rpc.proofs.laws.rest_is_one_kind.Goals as goal

pub returns : goal.returns
returns c = record { torn_is_not_long = torn_is_not_long; torn_is_some = torn_is_some; long_is_some = long_is_some }
