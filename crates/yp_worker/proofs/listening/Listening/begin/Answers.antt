use Rattle.std.proofs.Common.{inl, inr, true, refl, ap, ◌∙◌}
use Rattle.yp_io.specs.Calls.{Accepting, none_closed}
use Rattle.yp_answer.specs.session.Hosts.{conduct_of}
use Rattle.yp_worker.specs.Receptions.{opening_by, terms_of}
use Rattle.yp_worker.specs.Summing.{counting_of}
use Rattle.yp_worker.proofs.Listenings.{none_more, stays, closed_none}
use Rattle.yp_worker.proofs.listening.Listening.begin.Goals as goal

pub invariant_of-self : goal.invariant_of-self
invariant_of-self g c =
    let conduct = conduct_of g.H.View.seen g.H.Host.told g.H.Host.counts g.H.View.stepped g.H.Host.made g.H.Host.carried in
    let counting = counting_of g.H.CatchUp.counted g.H.HandsOver.none g.H.HandsOver.plus in
    let terms = terms_of g.J.Site.catalogue g.J.Reception.starts g.J.Reception.most in
    rw c.attend.ensures (stays conduct counting terms g.J.Reception.opening c.self.invariant
    (opening_by g.L.Hall c.watch.new.self) c.in-Ok.ensures.same c.in-Ok.ensures.returned c.in-Ok.ensures.let_go c.in-Ok.ensures.cause.never_falls)

pub invariant_of-self-in-Err : goal.invariant_of-self-in-Err
invariant_of-self-in-Err g c =
    let conduct = conduct_of g.H.View.seen g.H.Host.told g.H.Host.counts g.H.View.stepped g.H.Host.made g.H.Host.carried in
    let counting = counting_of g.H.CatchUp.counted g.H.HandsOver.none g.H.HandsOver.plus in
    let terms = terms_of g.J.Site.catalogue g.J.Reception.starts g.J.Reception.most in
    none_more conduct counting terms g.J.Reception.opening c.self.invariant
    (opening_by g.L.Hall c.watch.new.self) true _ c.in-Err.ensures.same c.in-Err.ensures.returned c.in-Err.ensures.let_go c.in-Err.ensures.cause.never_falls
    (λ was. inr c.in-Err.ensures.cause.risen) (λ some. inl refl)

pub returns-in-Ok-clause-closed : goal.returns-in-Ok-clause-closed
returns-in-Ok-clause-closed g c =
    closed_none g.J.Reception.opening.past (g.L.Hall.past c.self.inside.listen) _ _ c.self.invariant.state.tells
    (c.closer.ensures.closed ∙ ap none_closed (ap (λ (a : Accepting). a.past) c.in-Ok.ensures.same))
