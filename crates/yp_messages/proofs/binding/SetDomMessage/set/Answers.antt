use Rattle.yp_messages.proofs.Joined.{joined}
use Rattle.yp_messages.proofs.binding.SetDomMessage.set.Goals as goal

pub returns : goal.returns
returns c = joined c.set_opaque-at.ensures
    (joined c.set_fixed-at.ensures (joined c.set_fixed-at-2.ensures c.set_u32.ensures))
