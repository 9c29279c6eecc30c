use Rattle.std.proofs.Common.{length}
use Rattle.yp_worker.proofs.datagrams.Queues.{takes_over, balances}
use Rattle.yp_worker.proofs.datagrams.Carrying.{none_waits}
use Rattle.yp_worker.proofs.datagrams.pending.DeferredQueue.oldest.Goals as goal

pub pop_as-requires-clause-rule : goal.pop_as-requires-clause-rule
pop_as-requires-clause-rule g c =
    (takes_over (length g.J.Site.catalogue.maps) _ _ c.pass.invariant.0, balances (length g.J.Site.catalogue.maps) _ _)

pub returns-clause-all : goal.returns-clause-all
returns-clause-all g c = none_waits c.pop_as.result _ _ _ _ _ c.pop_as.ensures.rule c.pass.view_is
