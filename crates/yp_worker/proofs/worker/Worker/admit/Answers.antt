use Rattle.std.proofs.Common.{is_some, refl}
use Rattle.yp_answer.specs.session.Hosts.{conduct_of}
use Rattle.yp_worker.specs.Receptions.{terms_of}
use Rattle.yp_worker.specs.Summing.{counting_of}
use Rattle.yp_worker.proofs.Attending.{comes_no_more, comes_one, comes_same, has_more_room, must_be}
use Rattle.yp_worker.proofs.worker.Worker.admit.Goals as goal

pub returns-then-not-shift-clause-comes : goal.returns-then-not-shift-clause-comes
returns-then-not-shift-clause-comes g c = comes_same _ _ _ _ _ refl refl

pub returns-then-not-has_room-clause-served : goal.returns-then-not-has_room-clause-served
returns-then-not-has_room-clause-served g c =
    let conduct = conduct_of g.H.View.seen g.H.Host.told g.H.Host.counts g.H.View.stepped g.H.Host.made g.H.Host.carried in
    let counting = counting_of g.H.CatchUp.counted g.H.HandsOver.none g.H.HandsOver.plus in
    let terms = terms_of g.J.Site.catalogue g.J.Reception.starts g.J.Reception.most in
    rw c.has_room.ensures.same (has_more_room g.L.In.TrySource g.L.Out.TrySink conduct counting terms g.J.Reception.opening.past _ _ c.args.self.now refl refl refl refl refl refl refl c.requires.served)

pub returns-then-not-has_room-clause-comes : goal.returns-then-not-has_room-clause-comes
returns-then-not-has_room-clause-comes g c = rw c.has_room.ensures.same (comes_same _ _ _ _ _ refl refl)

pub enter-requires-clause-served : goal.enter-requires-clause-served
enter-requires-clause-served g c =
    let conduct = conduct_of g.H.View.seen g.H.Host.told g.H.Host.counts g.H.View.stepped g.H.Host.made g.H.Host.carried in
    let counting = counting_of g.H.CatchUp.counted g.H.HandsOver.none g.H.HandsOver.plus in
    let terms = terms_of g.J.Site.catalogue g.J.Reception.starts g.J.Reception.most in
    rw c.has_room.ensures.same (has_more_room g.L.In.TrySource g.L.Out.TrySink conduct counting terms g.J.Reception.opening.past _ _ c.args.self.now refl refl refl refl refl refl refl c.requires.served)

pub returns-in-Came-clause-comes : goal.returns-in-Came-clause-comes
returns-in-Came-clause-comes g c =
    comes_one _ _ _ _ _ _ c.in-Came.ensures.admits.1 (rw c.has_room.ensures.same at c.enter.ensures.came)
    (rw c.has_room.ensures.same at c.enter.ensures.door)

pub returns-in-NotNow-clause-served : goal.returns-in-NotNow-clause-served
returns-in-NotNow-clause-served g c =
    let conduct = conduct_of g.H.View.seen g.H.Host.told g.H.Host.counts g.H.View.stepped g.H.Host.made g.H.Host.carried in
    let counting = counting_of g.H.CatchUp.counted g.H.HandsOver.none g.H.HandsOver.plus in
    let terms = terms_of g.J.Site.catalogue g.J.Reception.starts g.J.Reception.most in
    rw c.has_room.ensures.same (has_more_room g.L.In.TrySource g.L.Out.TrySink conduct counting terms g.J.Reception.opening.past _ _ c.args.self.now refl refl refl refl refl refl refl c.requires.served)

pub returns-in-NotNow-clause-comes : goal.returns-in-NotNow-clause-comes
returns-in-NotNow-clause-comes g c = rw (c.in-NotNow.ensures.admits, c.has_room.ensures.same) (comes_same _ _ _ _ _ refl refl)

pub returns-in-Closed-clause-served : goal.returns-in-Closed-clause-served
returns-in-Closed-clause-served g c =
    let conduct = conduct_of g.H.View.seen g.H.Host.told g.H.Host.counts g.H.View.stepped g.H.Host.made g.H.Host.carried in
    let counting = counting_of g.H.CatchUp.counted g.H.HandsOver.none g.H.HandsOver.plus in
    let terms = terms_of g.J.Site.catalogue g.J.Reception.starts g.J.Reception.most in
    rw c.has_room.ensures.same (has_more_room g.L.In.TrySource g.L.Out.TrySink conduct counting terms g.J.Reception.opening.past _ _ c.args.self.now refl refl refl refl refl refl refl c.requires.served)

pub returns-in-Closed-clause-comes : goal.returns-in-Closed-clause-comes
returns-in-Closed-clause-comes g c = rw c.has_room.ensures.same (comes_no_more _ _ _ _ _ c.in-Closed.ensures.admits refl c.if-not-shift.false)

pub returns-in-Failed-clause-served : goal.returns-in-Failed-clause-served
returns-in-Failed-clause-served g c =
    let conduct = conduct_of g.H.View.seen g.H.Host.told g.H.Host.counts g.H.View.stepped g.H.Host.made g.H.Host.carried in
    let counting = counting_of g.H.CatchUp.counted g.H.HandsOver.none g.H.HandsOver.plus in
    let terms = terms_of g.J.Site.catalogue g.J.Reception.starts g.J.Reception.most in
    rw c.has_room.ensures.same (has_more_room g.L.In.TrySource g.L.Out.TrySink conduct counting terms g.J.Reception.opening.past _ _ c.args.self.now refl refl refl refl refl refl refl c.requires.served)

pub returns-in-Failed-clause-comes : goal.returns-in-Failed-clause-comes
returns-in-Failed-clause-comes g c = rw c.has_room.ensures.same (comes_no_more _ _ _ _ _ c.in-Failed.ensures.admits refl c.if-not-shift.false)

pub take_over-requires-clause-served : goal.take_over-requires-clause-served
take_over-requires-clause-served g c =
    let conduct = conduct_of g.H.View.seen g.H.Host.told g.H.Host.counts g.H.View.stepped g.H.Host.made g.H.Host.carried in
    let counting = counting_of g.H.CatchUp.counted g.H.HandsOver.none g.H.HandsOver.plus in
    let terms = terms_of g.J.Site.catalogue g.J.Reception.starts g.J.Reception.most in
    rw c.has_room.ensures.same (has_more_room g.L.In.TrySource g.L.Out.TrySink conduct counting terms g.J.Reception.opening.past _ _ c.args.self.now refl refl refl refl refl refl refl c.requires.served)

pub returns-in-Left-clause-comes : goal.returns-in-Left-clause-comes
returns-in-Left-clause-comes g c =
    comes_one _ _ _ _ _ _ c.in-Left.ensures.admits.1 (rw c.has_room.ensures.same at c.take_over.ensures.came)
    (rw c.has_room.ensures.same at c.take_over.ensures.door)

pub take_over-requires-clause-carries : goal.take_over-requires-clause-carries
take_over-requires-clause-carries g c = rw (← c.self.view_is) (must_be (is_some c.self.inside.work) (λ no. c.in-Left.ensures.idle no))
