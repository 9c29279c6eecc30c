use Rattle.yp_messages.proofs.Joined.{joined}
use Rattle.yp_messages.proofs.results.KeyValMessage.set.Goals as goal

pub returns : goal.returns
returns c = joined c.set-at.ensures (joined c.set_opaque-at.ensures c.set_opaque.ensures)
