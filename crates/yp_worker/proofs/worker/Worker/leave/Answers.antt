use Rattle.std.proofs.Common.{◌<◌, is_some, refl, sym, arith}
use Rattle.yp_answer.specs.session.Hosts.{conduct_of}
use Rattle.yp_worker.specs.Receptions.{terms_of}
use Rattle.yp_worker.specs.Summing.{counting_of}
use Rattle.yp_worker.specs.inside.Guests.{IsWaiting}
use Rattle.yp_worker.proofs.Attending.{if_there, some_there, may_leave, is_left, comes_none, comes_less}
use Rattle.yp_worker.proofs.worker.Worker.leave.Goals as goal

pub kept_waiting-requires-clause-out : goal.kept_waiting-requires-clause-out
kept_waiting-requires-clause-out g c =
    let guests = c.args.shift.now.guests in
    if_there (λ guest. 0 < c.args.pass.now.out) _ (λ guest there.
    let some = some_there guests c.args.place guest there in omega (arith, some, c.requires.out))

pub kept_waiting-requires-clause-waits : goal.kept_waiting-requires-clause-waits
kept_waiting-requires-clause-waits g c =
    let conduct = conduct_of g.H.View.seen g.H.Host.told g.H.Host.counts g.H.View.stepped g.H.Host.made g.H.Host.carried in
    let counting = counting_of g.H.CatchUp.counted g.H.HandsOver.none g.H.HandsOver.plus in
    let terms = terms_of g.J.Site.catalogue g.J.Reception.starts g.J.Reception.most in
    if_there (λ guest. IsWaiting g.L.In.TrySource g.L.Out.TrySink conduct counting terms g.J.Reception.opening.past g.H.Front.Known.known (record { guest = guest; front = c.in-Ok.front })) _
    (λ guest there. may_leave g.L.In.TrySource g.L.Out.TrySink conduct counting terms g.J.Reception.opening.past g.H.Front.Known.known _
    (record { host = c.self.inside.host; most = c.self.inside.most; carries = is_some c.self.inside.work }) c.args.place guest c.in-Ok.front
    (rw (← c.self.view_is) at c.requires.served) (sym c.if-is_some.ensures) c.in-Ok.ensures there)

pub returns-then-is_some-clause-comes : goal.returns-then-is_some-clause-comes
returns-then-is_some-clause-comes g c =
    comes_none _ _ _

pub returns-in_default-clause-comes : goal.returns-in_default-clause-comes
returns-in_default-clause-comes g c =
    comes_none _ _ _

pub returns-then-not-kept_waiting-clause-served : goal.returns-then-not-kept_waiting-clause-served
returns-then-not-kept_waiting-clause-served g c =
    rw (c.kept_waiting.ensures.same c.if-not-kept_waiting.true).0 c.requires.served

pub returns-then-not-kept_waiting-clause-comes : goal.returns-then-not-kept_waiting-clause-comes
returns-then-not-kept_waiting-clause-comes g c =
    let same = c.kept_waiting.ensures.same c.if-not-kept_waiting.true in
    rw (same.0, same.1) (comes_none _ _ _)

pub returns-clause-served : goal.returns-clause-served
returns-clause-served g c =
    let conduct = conduct_of g.H.View.seen g.H.Host.told g.H.Host.counts g.H.View.stepped g.H.Host.made g.H.Host.carried in
    let counting = counting_of g.H.CatchUp.counted g.H.HandsOver.none g.H.HandsOver.plus in
    let terms = terms_of g.J.Site.catalogue g.J.Reception.starts g.J.Reception.most in
    let kept = c.kept_waiting.ensures.kept c.if-not-kept_waiting.false in
    rw c.leave.ensures.let_go (is_left g.L.In.TrySource g.L.Out.TrySink conduct counting terms g.J.Reception.opening.past _ _ c.args.self.now c.args.place kept.taken_out.guest
    c.requires.served (rw (← c.self.view_is) (sym c.if-is_some.ensures)) refl kept.taken_out.found kept.taken_out.updates kept.taken_out.count)

pub returns-clause-comes : goal.returns-clause-comes
returns-clause-comes g c =
    let kept = c.kept_waiting.ensures.kept c.if-not-kept_waiting.false in
    comes_less _ _ _ _ _ _ kept.same kept.out (omega (arith, kept.taken_out.count)) refl
