use Rattle.yp_host.proofs.workers.Hosting.{made_from}
use Rattle.yp_host.proofs.workers.host.WorkerHostHost.make.Goals as goal

pub returns : goal.returns
returns g c =
    made_from g.B.Reader.View.seen g.B.Reader.View.stepped g.S.Supplies.text g.S.Supplies.hosts c.args.job
    c.make_shared-stat.result _ c.args.self.now g.S.Site.catalogue c.make_shared-stat.new.reader
    c.files_after-self-inside.result c.made_after-self-inside.result c.make_shared-stat.new.charges.left c.self.view_is c.self.invariant.0 c.make_shared-stat.ensures.made
    c.make_shared-stat.ensures.learned c.files_after-self-inside.ensures c.made_after-self-inside.ensures
    c.make_shared-stat.ensures.left
