use Rattle.yp_answer.specs.session.Hosts.{conduct_of}
use Rattle.yp_worker.specs.Receptions.{terms_of}
use Rattle.yp_worker.specs.Summing.{counting_of}
use Rattle.yp_worker.proofs.Attending.{accepted}
use Rattle.yp_worker.proofs.worker.Worker.enter.Goals as goal

pub seat-requires-clause-comes : goal.seat-requires-clause-comes
seat-requires-clause-comes g c =
    let conduct = conduct_of g.H.View.seen g.H.Host.told g.H.Host.counts g.H.View.stepped g.H.Host.made g.H.Host.carried in
    let counting = counting_of g.H.CatchUp.counted g.H.HandsOver.none g.H.HandsOver.plus in
    let terms = terms_of g.J.Site.catalogue g.J.Reception.starts g.J.Reception.most in
    accepted g.L.In.TrySource g.L.Out.TrySink conduct counting terms g.J.Reception.opening.past _ c.args.self.now c.args.call c.new-guest.result
    c.requires.served c.requires.call c.new-guest.ensures.origin c.new-guest.ensures.talk c.new-guest.ensures.number
