use Rattle.yp_rpc.proofs.CutOne.{cut_one}
use Rattle.yp_rpc.proofs.laws.cut_is_one.Goals as goal

pub returns : goal.returns
returns c = cut_one
