use Rattle.yp_host.proofs.workers.Queues.{joins}
use Rattle.yp_host.proofs.workers.call_backs.PendingCallBacks.merge.Goals as goal

pub absorb-requires-clause-rule : goal.absorb-requires-clause-rule
absorb-requires-clause-rule c = joins _ _ _ _ c.pass.invariant.0
