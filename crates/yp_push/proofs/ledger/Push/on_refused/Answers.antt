use Rattle.yp_push.proofs.Settling.{refuses}
use Rattle.yp_push.proofs.ledger.Push.on_refused.Goals as goal

pub settle-requires : goal.settle-requires
settle-requires c = refuses _ _ _ c.requires
