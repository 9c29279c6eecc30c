use Rattle.yp_xdr.proofs.Parts as laws
use Rattle.yp_xdr.proofs.laws.written_is_joined.Goals as goal

pub returns : goal.returns
returns c = laws.written-written
