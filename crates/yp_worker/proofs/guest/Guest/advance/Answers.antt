use Rattle.yp_answer.specs.session.Hosts.{conduct_of}
use Rattle.yp_worker.proofs.Guesting.{works_on}
use Rattle.yp_worker.proofs.guest.Guest.advance.Goals as goal

pub returns-clause-works : goal.returns-clause-works
returns-clause-works g c =
    let conduct = conduct_of g.H.View.seen g.H.Host.told g.H.Host.counts g.H.View.stepped g.H.Host.made g.H.Host.carried in
    rw (← c.self.view_is) (works_on conduct g.H.CatchUp.counted g.S.TrySource g.K.TrySink c.args.carries _ c.advance.new.self c.args.host.now c.advance.new.host
    (rw c.peer.ensures at c.advance.ensures.goes))
