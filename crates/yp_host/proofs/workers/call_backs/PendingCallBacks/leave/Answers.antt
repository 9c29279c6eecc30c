use Rattle.yp_host.proofs.workers.Queues.{leaves}
use Rattle.yp_host.proofs.workers.call_backs.PendingCallBacks.leave.Goals as goal

pub push_as-requires-clause-rule : goal.push_as-requires-clause-rule
push_as-requires-clause-rule g c =
    (leaves _ _ _ c.args.call_back c.pass.invariant.0, λ items views fair at. tt)
