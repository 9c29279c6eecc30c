use Rattle.yp_messages.proofs.Joined.{joined}
use Rattle.yp_messages.proofs.transfer.ReqXfrMessage.set.Goals as goal

pub returns : goal.returns
returns c = joined c.set_opaque-at.ensures
    (joined c.set_opaque-at-2.ensures
    (joined c.set_u32-at.ensures
    (joined c.set_opaque-at-3.ensures
    (joined c.set_u32-at-2.ensures (joined c.set_u32-at-3.ensures c.set_u32.ensures)))))
