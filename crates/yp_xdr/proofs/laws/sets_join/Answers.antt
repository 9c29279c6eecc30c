use Rattle.yp_xdr.proofs.Parts as laws
use Rattle.yp_xdr.proofs.laws.sets_join.Goals as goal

pub returns : goal.returns
returns c = laws.sets_join
