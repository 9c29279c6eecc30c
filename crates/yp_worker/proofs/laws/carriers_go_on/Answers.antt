use Rattle.yp_answer.specs.session.Hosts.{conduct_of}
use Rattle.yp_rpc.specs.inside.Turns.{box_by}
use Rattle.yp_worker.proofs.datagrams.Carrying.{on_aside}
use Rattle.yp_worker.proofs.laws.carriers_go_on.Goals as goal

pub returns : goal.returns
returns g c = on_aside
    (conduct_of g.H.View.seen g.H.Host.told g.H.Host.counts g.H.View.stepped g.H.Host.made g.H.Host.carried)
    g.H.CatchUp.counted (box_by g.I.Inbox) g.I.Inbox.faults
