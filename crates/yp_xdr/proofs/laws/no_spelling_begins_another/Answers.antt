use Rattle.yp_xdr.proofs.KindLaws as laws
use Rattle.yp_xdr.proofs.laws.no_spelling_begins_another.Goals as goal

pub returns : goal.returns
returns c = laws.no_spelling_begins_another
