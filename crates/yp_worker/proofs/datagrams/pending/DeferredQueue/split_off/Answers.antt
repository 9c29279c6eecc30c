use Rattle.std.proofs.Common.{length, ap, arith}
use Rattle.yp_worker.proofs.datagrams.Queues.{cuts}
use Rattle.yp_worker.proofs.datagrams.pending.DeferredQueue.split_off.Goals as goal

pub another-requires-clause-rule : goal.another-requires-clause-rule
another-requires-clause-rule g c =
    let some = c.requires.some in
    let is = ap (λ h. h.parts) c.pass.view_is in
    cuts (length g.J.Site.catalogue.maps) _ _ (omega (arith, some, is))
