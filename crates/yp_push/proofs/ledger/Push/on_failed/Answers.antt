use Rattle.yp_push.proofs.Settling.{fails}
use Rattle.yp_push.proofs.ledger.Push.on_failed.Goals as goal

pub settle-requires : goal.settle-requires
settle-requires c = fails _ _ _ c.requires
