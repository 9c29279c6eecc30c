use Rattle.yp_xdr.proofs.KindLaws as laws
use Rattle.yp_xdr.proofs.laws.written_is_read_again.Goals as goal

pub returns : goal.returns
returns c = laws.written_is_read_again
