use Rattle.std.proofs.Common.{length}
use Rattle.yp_worker.proofs.datagrams.Queues.{joins}
use Rattle.yp_worker.proofs.datagrams.pending.DeferredQueue.merge.Goals as goal

pub absorb-requires-clause-rule : goal.absorb-requires-clause-rule
absorb-requires-clause-rule g c = joins (length g.J.Site.catalogue.maps) _ _ _ _ c.pass.invariant.0
