use Rattle.std.proofs.Common.{refl}
use Rattle.yp_answer.specs.session.Hosts.{conduct_of}
use Rattle.yp_worker.specs.Receptions.{terms_of}
use Rattle.yp_worker.specs.Summing.{counting_of}
use Rattle.yp_worker.proofs.Attending.{comes, counts_failure, counts_none}
use Rattle.yp_worker.proofs.worker.Worker.seat.Goals as goal

pub close-requires-clause-served : goal.close-requires-clause-served
close-requires-clause-served g c =
    let conduct = conduct_of g.H.View.seen g.H.Host.told g.H.Host.counts g.H.View.stepped g.H.Host.made g.H.Host.carried in
    let counting = counting_of g.H.CatchUp.counted g.H.HandsOver.none g.H.HandsOver.plus in
    let terms = terms_of g.J.Site.catalogue g.J.Reception.starts g.J.Reception.most in
    let inserted = c.insert_reserved.ensures in (
      g.L.Watch.Watch.let_go c.args.shift.now.watch,
      comes g.L.In.TrySource g.L.Out.TrySink conduct counting terms g.J.Reception.opening.past _ _ c.args.self.now c.insert_reserved.result
          c.args.guest c.requires.comes refl refl inserted.was_vacant inserted.updates inserted.len c.requires.number,
      counts_failure _ _ c.enter-watched.result c.if-is_err.ensures.value c.enter-watched.ensures.let_go,
    )

pub returns-else-is_err-clause-served : goal.returns-else-is_err-clause-served
returns-else-is_err-clause-served g c =
    let conduct = conduct_of g.H.View.seen g.H.Host.told g.H.Host.counts g.H.View.stepped g.H.Host.made g.H.Host.carried in
    let counting = counting_of g.H.CatchUp.counted g.H.HandsOver.none g.H.HandsOver.plus in
    let terms = terms_of g.J.Site.catalogue g.J.Reception.starts g.J.Reception.most in
    let inserted = c.insert_reserved.ensures in
    rw (counts_none _ _ c.enter-watched.result c.if-is_err.ensures.value c.enter-watched.ensures.let_go)
    (comes g.L.In.TrySource g.L.Out.TrySink conduct counting terms g.J.Reception.opening.past _ _ c.args.self.now c.insert_reserved.result
    c.args.guest c.requires.comes refl refl inserted.was_vacant inserted.updates inserted.len c.requires.number)
