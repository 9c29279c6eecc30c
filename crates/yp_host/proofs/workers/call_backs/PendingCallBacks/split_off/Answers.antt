use Rattle.std.proofs.Common.{ap, arith}
use Rattle.yp_host.proofs.workers.Queues.{cuts}
use Rattle.yp_host.proofs.workers.call_backs.PendingCallBacks.split_off.Goals as goal

pub another-requires-clause-rule : goal.another-requires-clause-rule
another-requires-clause-rule c =
    let some = c.requires.some in
    let is = ap (λ h. h.parts) c.pass.view_is in
    cuts 1 _ _ (omega (arith, some, is))
