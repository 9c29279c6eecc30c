use Rattle.yp_xdr.proofs.KindLaws as laws
use Rattle.yp_xdr.proofs.laws.list_is_read_in_turn.Goals as goal

pub returns : goal.returns
returns c = laws.list_is_read_in_turn
