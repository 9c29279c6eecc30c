use Rattle.std.proofs.Common.{ap, arith}
use Rattle.yp_host.proofs.workers.Queues.{cuts}
use Rattle.yp_host.proofs.workers.call_backs.PendingCallBacks.split_shares.Goals as goal

pub another-requires-clause-rule : goal.another-requires-clause-rule
another-requires-clause-rule g c =
    let some = c.requires.some.1 in
    let is = ap (λ h. h.parts) c.pass.view_is in
    cuts g.S.Accounts.shares _ _ (omega (arith, some, is))
