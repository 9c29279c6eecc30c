use Rattle.std.proofs.Common.{ap}
use Rattle.yp_answer.specs.session.Hosts.{conduct_of}
use Rattle.yp_worker.specs.Working.{Working}
use Rattle.yp_worker.specs.Receptions.{terms_of}
use Rattle.yp_worker.specs.Summing.{counting_of}
use Rattle.yp_worker.proofs.Attending.{taken_over, told_under}
use Rattle.yp_worker.proofs.worker.Worker.take_over.Goals as goal

pub seat-requires-clause-under : goal.seat-requires-clause-under
seat-requires-clause-under g c =
    let conduct = conduct_of g.H.View.seen g.H.Host.told g.H.Host.counts g.H.View.stepped g.H.Host.made g.H.Host.carried in
    let terms = terms_of g.J.Site.catalogue g.J.Reception.starts g.J.Reception.most in
    told_under conduct g.H.CatchUp.counted terms c.args.self.now c.reach.new.self c.requires.under c.reach.ensures.told
    (ap (λ (w : Working g.row.H.Denot). w.most) c.reach.ensures.same)

pub seat-requires-clause-comes : goal.seat-requires-clause-comes
seat-requires-clause-comes g c =
    let conduct = conduct_of g.H.View.seen g.H.Host.told g.H.Host.counts g.H.View.stepped g.H.Host.made g.H.Host.carried in
    let counting = counting_of g.H.CatchUp.counted g.H.HandsOver.none g.H.HandsOver.plus in
    let terms = terms_of g.J.Site.catalogue g.J.Reception.starts g.J.Reception.most in
    taken_over g.L.In.TrySource g.L.Out.TrySink conduct counting terms g.J.Reception.opening.past g.H.Front.Known.known _ c.args.self.now c.reach.new.self
    c.args.waiting c.renumber.new.self c.requires.served c.requires.waits c.reach.ensures.told
    (rw c.into_parts-guest.ensures.front at c.reach.ensures.reached) (ap (λ (w : Working g.row.H.Denot). w.carries) c.reach.ensures.same) c.requires.carries
    (rw c.into_parts-guest.ensures.guest at c.renumber.ensures)

pub returns-clause-under : goal.returns-clause-under
returns-clause-under g c =
    let conduct = conduct_of g.H.View.seen g.H.Host.told g.H.Host.counts g.H.View.stepped g.H.Host.made g.H.Host.carried in
    let terms = terms_of g.J.Site.catalogue g.J.Reception.starts g.J.Reception.most in
    told_under conduct g.H.CatchUp.counted terms c.args.self.now c.reach.new.self c.requires.under c.reach.ensures.told
    (ap (λ (w : Working g.row.H.Denot). w.most) c.reach.ensures.same)

pub returns-clause-grown : goal.returns-clause-grown
returns-clause-grown g c = c.reach.ensures.told.learned.grown
