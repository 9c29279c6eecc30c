use Rattle.yp_publisher.specs.Keeping.{keeping_of}
use Rattle.yp_answer.specs.inside.Transfer.{taken_view}
use Rattle.yp_host.proofs.Transferring.{transfer_grows}
use Rattle.yp_host.proofs.carrying.carry_out.Goals as goal

pub returns-clause-catalogue : goal.returns-clause-catalogue
returns-clause-catalogue g c =
    let keeping = keeping_of g.D.Disk.history g.D.Disk.faults g.B.Show.log in
    let step = c.transfer_for.ensures in
    (transfer_grows keeping (taken_view c.args.job.now) step.transfers.outcome step.result c.args.publisher.now c.transfer_for.new.publisher c.requires step.transfers.installs).catalogue

pub returns-clause-grown : goal.returns-clause-grown
returns-clause-grown g c =
    let keeping = keeping_of g.D.Disk.history g.D.Disk.faults g.B.Show.log in
    let step = c.transfer_for.ensures in
    (transfer_grows keeping (taken_view c.args.job.now) step.transfers.outcome step.result c.args.publisher.now c.transfer_for.new.publisher c.requires step.transfers.installs).grown
