use Rattle.yp_answer.specs.session.Hosts.{conduct_of}
use Rattle.yp_worker.specs.Summing.{counting_of}
use Rattle.yp_worker.proofs.Summing.{sums_further}
use Rattle.yp_worker.proofs.laws.sums_reach_further.Goals as goal

pub returns : goal.returns
returns g c = sums_further
    (conduct_of g.H.View.seen g.H.Host.told g.H.Host.counts g.H.View.stepped g.H.Host.made g.H.Host.carried)
    (counting_of g.H.CatchUp.counted g.H.HandsOver.none g.H.HandsOver.plus)
