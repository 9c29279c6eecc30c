use Rattle.yp_client.proofs.Calling.{sets_none}
use Rattle.yp_client.proofs.procedures.NoArgumentsMessage.set.Goals as goal

pub returns : goal.returns
returns c = sets_none _ _
