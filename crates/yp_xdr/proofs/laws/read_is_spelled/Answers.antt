use Rattle.yp_xdr.proofs.KindLaws as laws
use Rattle.yp_xdr.proofs.laws.read_is_spelled.Goals as goal

pub returns : goal.returns
returns c = laws.read_is_spelled
