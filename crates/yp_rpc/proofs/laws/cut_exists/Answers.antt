use Rattle.yp_rpc.proofs.CutExists.{cut_exists}
use Rattle.yp_rpc.proofs.laws.cut_exists.Goals as goal

pub returns : goal.returns
returns c = cut_exists
