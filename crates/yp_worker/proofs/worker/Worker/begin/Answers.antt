use Rattle.std.proofs.Common.{refl}
use Rattle.yp_answer.specs.session.Hosts.{conduct_of}
use Rattle.yp_worker.specs.Receptions.{terms_of}
use Rattle.yp_worker.specs.Summing.{counting_of}
use Rattle.yp_worker.proofs.Attending.{nobody, none_in}
use Rattle.yp_worker.proofs.worker.Worker.begin.Goals as goal

pub returns-clause-served : goal.returns-clause-served
returns-clause-served g c =
    let conduct = conduct_of g.H.View.seen g.H.Host.told g.H.Host.counts g.H.View.stepped g.H.Host.made g.H.Host.carried in
    let counting = counting_of g.H.CatchUp.counted g.H.HandsOver.none g.H.HandsOver.plus in
    let terms = terms_of g.J.Site.catalogue g.J.Reception.starts g.J.Reception.most in
    nobody g.L.In.TrySource g.L.Out.TrySink conduct counting terms g.J.Reception.opening.past _ c.args.self.now c.requires.under
    c.requires.none (none_in c.new.result c.new.ensures.empty) refl refl refl c.in-Ok.ensures.closed c.in-Ok.ensures.count
