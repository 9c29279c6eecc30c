use Rattle.yp_messages.proofs.Joined.{joined}
use Rattle.yp_messages.proofs.requests.ReqKeyMessage.set.Goals as goal

pub returns : goal.returns
returns c = joined c.set_opaque-at.ensures (joined c.set_opaque-at-2.ensures c.set_opaque.ensures)
