use Rattle.yp_rpc.proofs.CutOne.{rest_is_not_whole}
use Rattle.yp_rpc.proofs.laws.rest_is_not_whole.Goals as goal

pub returns : goal.returns
returns c = rest_is_not_whole
