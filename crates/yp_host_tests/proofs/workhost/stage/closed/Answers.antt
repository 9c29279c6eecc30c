use Rattle.std.proofs.Common.{ap, subst, sym}
use Rattle.yp_host.specs.inside.workers.CallBacks.{HeldCallBacks, AreKnown}
use Rattle.yp_host_tests.proofs.workhost.stage.closed.Goals as goal

-- the versions of what was left are known
pub close-dialer-requires-clause-told : goal.close-dialer-requires-clause-told
close-dialer-requires-clause-told g c =
    let shares = c.into_shares-unread in
    let left = ap (λ (held : HeldCallBacks). held.left) shares.ensures.left in
    subst (AreKnown shares.result.4.known) (sym left) shares.ensures.known
