use Rattle.std.proofs.Common.{rules, inl, inr, true, refl, sym, ap, ◌∙◌, arith}
use Rattle.yp_answer.specs.session.Hosts.{conduct_of}
use Rattle.yp_io.specs.Calls.{Accepting}
use Rattle.yp_worker.specs.Receptions.{opening_by, terms_of}
use Rattle.yp_worker.specs.Summing.{counting_of}
use Rattle.yp_worker.proofs.Receiving.{came_one, came_expected, kept_came}
use Rattle.yp_worker.proofs.Summing.{sums_came}
use Rattle.yp_worker.proofs.Listenings.{none_more, stays}
use Rattle.yp_worker.proofs.listening.Listening.accept.Goals as goal

pub invariant_of-self-in-Ok-Came : goal.invariant_of-self-in-Ok-Came
invariant_of-self-in-Ok-Came g c =
    let conduct = conduct_of g.H.View.seen g.H.Host.told g.H.Host.counts g.H.View.stepped g.H.Host.made g.H.Host.carried in
    let counting = counting_of g.H.CatchUp.counted g.H.HandsOver.none g.H.HandsOver.plus in
    let terms = terms_of g.J.Site.catalogue g.J.Reception.starts g.J.Reception.most in
    let seen = opening_by g.L.Hall in
    let comes = came_one _ _ _ c.in-Ok-Came.field-0-is c.in-Ok-Came.ensures.came in record {
      state = rw (c.add-in-Ok-Came.ensures.total, c.saturating_add-self-inside.ensures) (kept_came
          g.J.Reception.opening (seen c.self.inside.listen) (seen c.try_accept.new.self) _ _ _ _ c.self.invariant.state _ c.if-self.false
          comes c.in-Ok-Came.ensures.returned c.in-Ok-Came.ensures.cause.never_falls);
      sums = sums_came conduct counting terms _ g.J.Reception.opening (seen c.self.inside.listen) (seen c.try_accept.new.self) _ _
          c.self.invariant.state.tells
          c.self.invariant.sums comes.gained c.in-Ok-Came.ensures.returned c.in-Ok-Came.ensures.let_go;
      held = c.self.invariant.held;
      one_part = c.self.invariant.one_part;
    }

pub invariant_of-self-in-Err : goal.invariant_of-self-in-Err
invariant_of-self-in-Err g c =
    let conduct = conduct_of g.H.View.seen g.H.Host.told g.H.Host.counts g.H.View.stepped g.H.Host.made g.H.Host.carried in
    let counting = counting_of g.H.CatchUp.counted g.H.HandsOver.none g.H.HandsOver.plus in
    let terms = terms_of g.J.Site.catalogue g.J.Reception.starts g.J.Reception.most in
    none_more conduct counting terms g.J.Reception.opening c.self.invariant
    (opening_by g.L.Hall c.try_accept.new.self) true _
    c.in-Err.ensures.none c.in-Err.ensures.returned c.in-Err.ensures.let_go c.in-Err.ensures.cause.never_falls
    (λ was. inr c.in-Err.ensures.cause.risen) (λ some. inl refl)

pub returns-in-Ok-Came : goal.returns-in-Ok-Came
returns-in-Ok-Came g c =
    let comes = came_one _ _ _ c.in-Ok-Came.field-0-is c.in-Ok-Came.ensures.came in record {
      admits = (
        record {
          fresh = came_one _ _ _ c.in-Ok-Came.field-0-is c.in-Ok-Came.ensures.fresh;
          expected = came_expected _ g.J.Reception.opening.past (g.L.Hall.past c.self.inside.listen)
              (g.L.Hall.past c.try_accept.new.self) _ c.self.invariant.state.tells comes.gained;
        },
        search rules,
      );
      idle = tt;
    }

pub invariant_of-self : goal.invariant_of-self
invariant_of-self g c =
    let conduct = conduct_of g.H.View.seen g.H.Host.told g.H.Host.counts g.H.View.stepped g.H.Host.made g.H.Host.carried in
    let counting = counting_of g.H.CatchUp.counted g.H.HandsOver.none g.H.HandsOver.plus in
    let terms = terms_of g.J.Site.catalogue g.J.Reception.starts g.J.Reception.most in
    none_more conduct counting terms g.J.Reception.opening c.self.invariant
    (opening_by g.L.Hall c.self.inside.listen) _ _
    refl refl refl (omega arith) (λ was. inl was) (λ some. inl c.if-self.true)

pub invariant_of-self-in-Ok-NotNow : goal.invariant_of-self-in-Ok-NotNow
invariant_of-self-in-Ok-NotNow g c =
    let conduct = conduct_of g.H.View.seen g.H.Host.told g.H.Host.counts g.H.View.stepped g.H.Host.made g.H.Host.carried in
    let counting = counting_of g.H.CatchUp.counted g.H.HandsOver.none g.H.HandsOver.plus in
    let terms = terms_of g.J.Site.catalogue g.J.Reception.starts g.J.Reception.most in
    let not_now = rw c.in-Ok-NotNow.field-0-is at c.in-Ok-NotNow.ensures.not_now in
    stays conduct counting terms g.J.Reception.opening c.self.invariant
    (opening_by g.L.Hall c.try_accept.new.self)
    not_now.same c.in-Ok-NotNow.ensures.returned c.in-Ok-NotNow.ensures.let_go c.in-Ok-NotNow.ensures.cause.never_falls

pub invariant_of-self-in-Ok-Closed : goal.invariant_of-self-in-Ok-Closed
invariant_of-self-in-Ok-Closed g c =
    let conduct = conduct_of g.H.View.seen g.H.Host.told g.H.Host.counts g.H.View.stepped g.H.Host.made g.H.Host.carried in
    let counting = counting_of g.H.CatchUp.counted g.H.HandsOver.none g.H.HandsOver.plus in
    let terms = terms_of g.J.Site.catalogue g.J.Reception.starts g.J.Reception.most in
    let closed = rw c.in-Ok-Closed.field-0-is at c.in-Ok-Closed.ensures.closed in
    none_more conduct counting terms g.J.Reception.opening c.self.invariant
    (opening_by g.L.Hall c.try_accept.new.self) _ _
    closed.same c.in-Ok-Closed.ensures.returned c.in-Ok-Closed.ensures.let_go c.in-Ok-Closed.ensures.cause.never_falls
    (λ was. inl was)
    (λ some. inr (ap (λ (a : Accepting). a.accepted) closed.same ∙ closed.all ∙ sym (ap (λ (a : Accepting). a.most) closed.same)))
