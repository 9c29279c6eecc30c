use Rattle.yp_xdr.proofs.KindLaws as laws
use Rattle.yp_xdr.proofs.laws.one_spelling.Goals as goal

pub returns : goal.returns
returns c = laws.one_spelling
