use Rattle.yp_push.proofs.Keeping.{quiets}
use Rattle.yp_push.proofs.ledger.Push.on_quiet.Goals as goal

pub invariant_of-self : goal.invariant_of-self
invariant_of-self c = rw c.push.ensures (quiets _ _ _ _ _ _ c.self.invariant)
