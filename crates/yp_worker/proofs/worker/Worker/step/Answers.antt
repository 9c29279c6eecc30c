use Rattle.std.proofs.Common.{◌∙◌, refl, sym, ap, subst, IfSome, arith}
use Rattle.yp_answer.specs.session.Hosts.{conduct_of}
use Rattle.yp_worker.specs.Working.{Working}
use Rattle.yp_worker.specs.Receptions.{terms_of}
use Rattle.yp_worker.specs.Summing.{counting_of}
use Rattle.yp_answer.specs.inside.session.Cuts.{cut_of}
use Rattle.yp_worker.specs.Summing.{IsOver}
use Rattle.yp_worker.proofs.Attending.{due_at, goes, is_over, still_under}
use Rattle.yp_worker.proofs.worker.Worker.step.Goals as goal

pub advanced-requires : goal.advanced-requires
advanced-requires g c =
    let conduct = conduct_of g.H.View.seen g.H.Host.told g.H.Host.counts g.H.View.stepped g.H.Host.made g.H.Host.carried in
    let counting = counting_of g.H.CatchUp.counted g.H.HandsOver.none g.H.HandsOver.plus in
    let terms = terms_of g.J.Site.catalogue g.J.Reception.starts g.J.Reception.most in
    record { due = due_at g.L.In.TrySource g.L.Out.TrySink conduct counting terms g.J.Reception.opening.past _ c.args.self.now c.args.place _ c.requires.under.catalogue c.requires.served }

pub returns-in_default-clause-served : goal.returns-in_default-clause-served
returns-in_default-clause-served g c = rw (c.in_default.ensures.none.0, c.in_default.ensures.none.1) c.requires.served

pub close-requires-clause-under : goal.close-requires-clause-under
close-requires-clause-under g c =
    let conduct = conduct_of g.H.View.seen g.H.Host.told g.H.Host.counts g.H.View.stepped g.H.Host.made g.H.Host.carried in
    let counting = counting_of g.H.CatchUp.counted g.H.HandsOver.none g.H.HandsOver.plus in
    let terms = terms_of g.J.Site.catalogue g.J.Reception.starts g.J.Reception.most in
    still_under conduct terms c.args.self.now c.advanced.new.self c.requires.under c.in-Some.ensures.went.change.0.sees (ap (λ (w : Working g.row.H.Denot). w.most) c.in-Some.ensures.same)

pub close-requires-clause-over : goal.close-requires-clause-over
close-requires-clause-over g c = λ no.
    let went = c.in-Some.ensures.went in
    subst (λ o. IfSome o (λ guest. IsOver c.advanced.new.self.most (cut_of g.L.In.TrySource g.L.Out.TrySink guest.talk))) (sym went.updates.changed)
    (subst (λ m. IsOver m (cut_of g.L.In.TrySource g.L.Out.TrySink went.now.talk)) (sym (ap (λ (w : Working g.row.H.Denot). w.most) c.in-Some.ensures.same)) (is_over _ _ _ _ c.in-Ended.is went.change.2))

pub close-requires-clause-served : goal.close-requires-clause-served
close-requires-clause-served g c =
    let conduct = conduct_of g.H.View.seen g.H.Host.told g.H.Host.counts g.H.View.stepped g.H.Host.made g.H.Host.carried in
    let counting = counting_of g.H.CatchUp.counted g.H.HandsOver.none g.H.HandsOver.plus in
    let terms = terms_of g.J.Site.catalogue g.J.Reception.starts g.J.Reception.most in
    let went = c.in-Some.ensures.went in (
      g.L.Watch.Watch.let_go c.args.shift.now.watch,
      goes g.L.In.TrySource g.L.Out.TrySink conduct counting terms g.J.Reception.opening.past _ _ c.args.self.now c.advanced.new.self c.args.place _ c.requires.served refl went
          went.change.0 went.change.1 (ap (λ (w : Working g.row.H.Denot). w.carries) c.in-Some.ensures.same) (went.change.0.sees.catalogue ∙ c.requires.under.catalogue),
      omega (arith, c.leave.ensures.let_go),
    )

pub returns-in-Moved-clause-under : goal.returns-in-Moved-clause-under
returns-in-Moved-clause-under g c =
    let conduct = conduct_of g.H.View.seen g.H.Host.told g.H.Host.counts g.H.View.stepped g.H.Host.made g.H.Host.carried in
    let counting = counting_of g.H.CatchUp.counted g.H.HandsOver.none g.H.HandsOver.plus in
    let terms = terms_of g.J.Site.catalogue g.J.Reception.starts g.J.Reception.most in
    still_under conduct terms c.args.self.now c.advanced.new.self c.requires.under c.in-Some.ensures.went.change.0.sees (ap (λ (w : Working g.row.H.Denot). w.most) c.in-Some.ensures.same)

pub returns-in-Moved-clause-grown : goal.returns-in-Moved-clause-grown
returns-in-Moved-clause-grown g c = c.in-Some.ensures.went.change.0.sees.grown

pub returns-in-Waits-clause-under : goal.returns-in-Waits-clause-under
returns-in-Waits-clause-under g c =
    let conduct = conduct_of g.H.View.seen g.H.Host.told g.H.Host.counts g.H.View.stepped g.H.Host.made g.H.Host.carried in
    let counting = counting_of g.H.CatchUp.counted g.H.HandsOver.none g.H.HandsOver.plus in
    let terms = terms_of g.J.Site.catalogue g.J.Reception.starts g.J.Reception.most in
    still_under conduct terms c.args.self.now c.advanced.new.self c.requires.under c.in-Some.ensures.went.change.0.sees (ap (λ (w : Working g.row.H.Denot). w.most) c.in-Some.ensures.same)

pub returns-in-Waits-clause-grown : goal.returns-in-Waits-clause-grown
returns-in-Waits-clause-grown g c = c.in-Some.ensures.went.change.0.sees.grown

pub returns-in-Ended-clause-under : goal.returns-in-Ended-clause-under
returns-in-Ended-clause-under g c =
    let conduct = conduct_of g.H.View.seen g.H.Host.told g.H.Host.counts g.H.View.stepped g.H.Host.made g.H.Host.carried in
    let counting = counting_of g.H.CatchUp.counted g.H.HandsOver.none g.H.HandsOver.plus in
    let terms = terms_of g.J.Site.catalogue g.J.Reception.starts g.J.Reception.most in
    still_under conduct terms c.args.self.now c.advanced.new.self c.requires.under c.in-Some.ensures.went.change.0.sees (ap (λ (w : Working g.row.H.Denot). w.most) c.in-Some.ensures.same)

pub returns-in-Ended-clause-grown : goal.returns-in-Ended-clause-grown
returns-in-Ended-clause-grown g c = c.in-Some.ensures.went.change.0.sees.grown

pub returns-in-Moved-clause-served : goal.returns-in-Moved-clause-served
returns-in-Moved-clause-served g c =
    let conduct = conduct_of g.H.View.seen g.H.Host.told g.H.Host.counts g.H.View.stepped g.H.Host.made g.H.Host.carried in
    let counting = counting_of g.H.CatchUp.counted g.H.HandsOver.none g.H.HandsOver.plus in
    let terms = terms_of g.J.Site.catalogue g.J.Reception.starts g.J.Reception.most in
    let went = c.in-Some.ensures.went in
    rw (c.again.ensures.let_go, c.awaits.ensures.let_go) (goes g.L.In.TrySource g.L.Out.TrySink conduct counting terms g.J.Reception.opening.past _ _ c.args.self.now c.advanced.new.self
    c.args.place _ c.requires.served refl went went.change.0 went.change.1 (ap (λ (w : Working g.row.H.Denot). w.carries) c.in-Some.ensures.same) (went.change.0.sees.catalogue ∙ c.requires.under.catalogue))

pub returns-in-Waits-clause-served : goal.returns-in-Waits-clause-served
returns-in-Waits-clause-served g c =
    let conduct = conduct_of g.H.View.seen g.H.Host.told g.H.Host.counts g.H.View.stepped g.H.Host.made g.H.Host.carried in
    let counting = counting_of g.H.CatchUp.counted g.H.HandsOver.none g.H.HandsOver.plus in
    let terms = terms_of g.J.Site.catalogue g.J.Reception.starts g.J.Reception.most in
    let went = c.in-Some.ensures.went in
    rw c.awaits-in-Waits.ensures.let_go (goes g.L.In.TrySource g.L.Out.TrySink conduct counting terms g.J.Reception.opening.past _ _ c.args.self.now c.advanced.new.self
    c.args.place _ c.requires.served refl went went.change.0 went.change.1 (ap (λ (w : Working g.row.H.Denot). w.carries) c.in-Some.ensures.same) (went.change.0.sees.catalogue ∙ c.requires.under.catalogue))

pub returns-in-TakesLong-clause-under : goal.returns-in-TakesLong-clause-under
returns-in-TakesLong-clause-under g c =
    let conduct = conduct_of g.H.View.seen g.H.Host.told g.H.Host.counts g.H.View.stepped g.H.Host.made g.H.Host.carried in
    let terms = terms_of g.J.Site.catalogue g.J.Reception.starts g.J.Reception.most in
    still_under conduct terms c.args.self.now c.advanced.new.self c.requires.under c.in-Some.ensures.went.change.0.sees (ap (λ (w : Working g.row.H.Denot). w.most) c.in-Some.ensures.same)

pub returns-in-TakesLong-clause-grown : goal.returns-in-TakesLong-clause-grown
returns-in-TakesLong-clause-grown g c = c.in-Some.ensures.went.change.0.sees.grown

pub returns-in-TakesLong-clause-served : goal.returns-in-TakesLong-clause-served
returns-in-TakesLong-clause-served g c =
    let conduct = conduct_of g.H.View.seen g.H.Host.told g.H.Host.counts g.H.View.stepped g.H.Host.made g.H.Host.carried in
    let counting = counting_of g.H.CatchUp.counted g.H.HandsOver.none g.H.HandsOver.plus in
    let terms = terms_of g.J.Site.catalogue g.J.Reception.starts g.J.Reception.most in
    let went = c.in-Some.ensures.went in
    rw c.awaits-in-TakesLong.ensures.let_go (goes g.L.In.TrySource g.L.Out.TrySink conduct counting terms g.J.Reception.opening.past _ _ c.args.self.now c.advanced.new.self
    c.args.place _ c.requires.served refl went went.change.0 went.change.1 (ap (λ (w : Working g.row.H.Denot). w.carries) c.in-Some.ensures.same) (went.change.0.sees.catalogue ∙ c.requires.under.catalogue))
