use Rattle.std.proofs.Common.{refl}
use Rattle.yp_xdr.specs.Spelling.{fixed}
use Rattle.yp_client.proofs.procedures.NoArgumentsMessage.len.Goals as goal

pub returns-clause-value : goal.returns-clause-value
unfolding fixed
returns-clause-value c = refl
