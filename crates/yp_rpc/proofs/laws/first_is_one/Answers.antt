use Rattle.yp_rpc.proofs.CutKinds.{whole_one}
use Rattle.yp_rpc.proofs.laws.first_is_one.Goals as goal

pub returns : goal.returns
returns c = whole_one
