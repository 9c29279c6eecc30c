use Rattle.yp_xdr.proofs.KindLaws as laws
use Rattle.yp_xdr.proofs.laws.refused_is_not_spelled.Goals as goal

pub returns : goal.returns
returns c = laws.refused_is_not_spelled
