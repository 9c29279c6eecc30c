use Rattle.std.proofs.Common.{subst}
use Rattle.yp_answer.specs.session.Hosts.{conduct_of, CarriesOut}
use Rattle.yp_rpc.specs.inside.Turns.{box_by}
use Rattle.yp_worker.proofs.datagrams.Carrying.{transfer_done}
use Rattle.yp_worker.proofs.datagrams.carrier.carry_out.Goals as goal

pub returns-in-Transfer : goal.returns-in-Transfer
returns-in-Transfer g c =
    let conduct = conduct_of g.H.View.seen g.H.Host.told g.H.Host.counts g.H.View.stepped g.H.Host.made g.H.Host.carried in
    let box = box_by g.I.Inbox in
    let out = subst (λ t. CarriesOut conduct t c.in-Transfer.peer c.args.host.now c.transfer.new.self) c.job.ensures c.transfer.ensures in
    rw c.in-Transfer.is (transfer_done conduct g.H.CatchUp.counted box g.I.Inbox.faults
    (c.in-Transfer.errand, c.in-Transfer.peer) c.args.fault c.args.host.now c.transfer.new.self c.args.inbox.now out)
