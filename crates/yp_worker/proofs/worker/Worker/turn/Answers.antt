use Rattle.std.proofs.Common.{is_some, refl, arith}
use Rattle.yp_answer.specs.session.Hosts.{conduct_of}
use Rattle.yp_worker.specs.Receptions.{terms_of}
use Rattle.yp_worker.specs.Summing.{counting_of}
use Rattle.yp_worker.proofs.Attending.{comes_same, learns, told_under}
use Rattle.yp_worker.proofs.Growing.{front_same, front_then}
use Rattle.yp_worker.proofs.worker.Worker.turn.Goals as goal

pub admit-requires-clause-served : goal.admit-requires-clause-served
admit-requires-clause-served g c = rw c.in-Door.ensures.let_go c.requires.served

pub go_on-requires-clause-served : goal.go_on-requires-clause-served
go_on-requires-clause-served g c = rw c.in-Ready.ensures.let_go c.requires.served

pub let_go-requires-clause-served : goal.let_go-requires-clause-served
let_go-requires-clause-served g c =
    (g.L.Watch.Watch.let_go c.args.shift.now.watch, c.requires.served, omega (arith, c.in-Late.ensures.let_go))

pub admit-requires-in-Quiet-clause-under : goal.admit-requires-in-Quiet-clause-under
admit-requires-in-Quiet-clause-under g c =
    let conduct = conduct_of g.H.View.seen g.H.Host.told g.H.Host.counts g.H.View.stepped g.H.Host.made g.H.Host.carried in
    let counting = counting_of g.H.CatchUp.counted g.H.HandsOver.none g.H.HandsOver.plus in
    let terms = terms_of g.J.Site.catalogue g.J.Reception.starts g.J.Reception.most in
    told_under conduct g.H.CatchUp.counted terms (record { host = c.self.inside.host; most = c.self.inside.most; carries = is_some c.self.inside.work }) _
    (rw (← c.self.view_is) at c.requires.under) (record { learned = c.catch_up.ensures.learned; counts = c.catch_up.ensures.counts; kept = c.catch_up.ensures.counted }) refl

pub admit-requires-in-Quiet-clause-served : goal.admit-requires-in-Quiet-clause-served
admit-requires-in-Quiet-clause-served g c =
    let conduct = conduct_of g.H.View.seen g.H.Host.told g.H.Host.counts g.H.View.stepped g.H.Host.made g.H.Host.carried in
    let counting = counting_of g.H.CatchUp.counted g.H.HandsOver.none g.H.HandsOver.plus in
    let terms = terms_of g.J.Site.catalogue g.J.Reception.starts g.J.Reception.most in
    rw c.in-Quiet.ensures.let_go (learns g.L.In.TrySource g.L.Out.TrySink conduct counting terms g.J.Reception.opening.past _ (record { host = c.self.inside.host; most = c.self.inside.most; carries = is_some c.self.inside.work }) _
    (record { learned = c.catch_up.ensures.learned; counts = c.catch_up.ensures.counts; kept = c.catch_up.ensures.counted }) refl (rw (← c.self.view_is) at c.requires.served))

pub returns-in-Late-clause-grown : goal.returns-in-Late-clause-grown
returns-in-Late-clause-grown g c = front_same _

pub returns-in-Late-clause-comes : goal.returns-in-Late-clause-comes
returns-in-Late-clause-comes g c = comes_same _ _ _ _ _ c.let_go.ensures.came c.let_go.ensures.door

pub returns-in-Quiet-clause-grown : goal.returns-in-Quiet-clause-grown
returns-in-Quiet-clause-grown g c = front_then _ _ _ (rw (← c.self.view_is) c.catch_up.ensures.learned.grown) c.admit-in-Quiet.ensures.grown
