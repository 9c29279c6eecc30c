use Rattle.yp_messages.proofs.Joined.{joined}
use Rattle.yp_messages.proofs.binding.BindRespMessage.set.Goals as goal

pub returns-in-Bound : goal.returns-in-Bound
returns-in-Bound c = rw c.in-Bound.is
    (joined c.set_i32-at.ensures (joined c.set_fixed-at.ensures c.set_fixed.ensures))
