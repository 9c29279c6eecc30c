use Rattle.yp_host.proofs.workers.Queues.{takes_over, balances}
use Rattle.yp_host.proofs.workers.Telling.{none_waits}
use Rattle.yp_host.proofs.workers.call_backs.PendingCallBacks.take_over.Goals as goal

pub pop_as-requires-clause-rule : goal.pop_as-requires-clause-rule
pop_as-requires-clause-rule g c =
    (takes_over _ _ c.pass.invariant.0, balances _ _)

pub returns-clause-all : goal.returns-clause-all
returns-clause-all g c = none_waits _ c.pop_as.result _ _ _ _ c.pop_as.ensures.rule c.pass.view_is
