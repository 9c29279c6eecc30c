use Rattle.std.proofs.Common.{◌∙◌, ℕ, refl, sym, ap, subst}
use Rattle.yp_io.specs.Counts.{capped}
use Rattle.yp_answer.specs.session.Hosts.{conduct_of}
use Rattle.yp_answer.specs.inside.session.Cuts.{cut_of}
use Rattle.yp_worker.specs.declared.tally.Tally.{Tally}
use Rattle.yp_worker.specs.Receptions.{terms_of}
use Rattle.yp_worker.specs.Summing.{IsOver, counting_of}
use Rattle.yp_worker.proofs.Attending.{if_found, leaves, may_let_go}
use Rattle.yp_worker.proofs.worker.Worker.close.Goals as goal

pub returns-in-Some-clause-served : goal.returns-in-Some-clause-served
returns-in-Some-clause-served g c =
    let conduct = conduct_of g.H.View.seen g.H.Host.told g.H.Host.counts g.H.View.stepped g.H.Host.made g.H.Host.carried in
    let counting = counting_of g.H.CatchUp.counted g.H.HandsOver.none g.H.HandsOver.plus in
    let terms = terms_of g.J.Site.catalogue g.J.Reception.starts g.J.Reception.most in
    let guest = c.in-Some.guest in
    let cut = cut_of g.L.In.TrySource g.L.Out.TrySink guest.talk in
    let found = sym c.in-Some.ensures.value in
    leaves g.L.In.TrySource g.L.Out.TrySink conduct counting terms g.J.Reception.opening.past _ _ c.args.self.now c.args.place guest
    c.args.is_let_go c.requires.served.1 found c.in-Some.ensures.updates c.in-Some.ensures.len
    (ap (λ (t : Tally). t.connections) c.count.ensures)
    (ap (λ (t : Tally). t.calls) c.count.ensures ∙ ap (λ (n : ℕ). capped c.args.shift.now.tally.calls n) c.calls.ensures)
    refl
    (rw (c.into_call.ensures.origin, c.into_call.ensures.source, c.into_call.ensures.sink) at c.close.ensures.closed)
    c.close.ensures.count c.requires.served.2
    (λ no. subst (λ (m : ℕ). IsOver m cut) c.requires.under.most
    (if_found (λ guest. IsOver c.args.self.now.most (cut_of g.L.In.TrySource g.L.Out.TrySink guest.talk)) _ guest found (c.requires.over no)))

pub returns-in_default-clause-served : goal.returns-in_default-clause-served
returns-in_default-clause-served g c =
    let conduct = conduct_of g.H.View.seen g.H.Host.told g.H.Host.counts g.H.View.stepped g.H.Host.made g.H.Host.carried in
    let counting = counting_of g.H.CatchUp.counted g.H.HandsOver.none g.H.HandsOver.plus in
    let terms = terms_of g.J.Site.catalogue g.J.Reception.starts g.J.Reception.most in
    rw c.in_default.ensures.absent (may_let_go g.L.In.TrySource g.L.Out.TrySink conduct counting terms g.J.Reception.opening.past _ c.args.self.now
    c.args.is_let_go _ c.requires.served.2 c.requires.served.1)
