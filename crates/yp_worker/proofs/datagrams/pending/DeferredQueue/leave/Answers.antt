use Rattle.std.proofs.Common.{length}
use Rattle.yp_worker.proofs.datagrams.Queues.{leaves}
use Rattle.yp_worker.proofs.datagrams.pending.DeferredQueue.leave.Goals as goal

pub push_as-requires-clause-rule : goal.push_as-requires-clause-rule
push_as-requires-clause-rule g c =
    (leaves (length g.J.Site.catalogue.maps) _ _ _ c.args.one c.pass.invariant.0 c.requires.ready, λ items views fair at. tt)
