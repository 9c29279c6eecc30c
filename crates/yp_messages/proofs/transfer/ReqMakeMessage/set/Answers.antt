use Rattle.yp_messages.proofs.Joined.{joined}
use Rattle.yp_messages.proofs.transfer.ReqMakeMessage.set.Goals as goal

pub returns : goal.returns
returns c = joined c.set_opaque-at.ensures c.set_u32.ensures
