use Rattle.std.proofs.Common.{sym, subst}
use Rattle.yp_publisher.specs.Rising.{IsRisingLog}
use Rattle.yp_publisher.specs.Grown.{AreTold}
use Rattle.yp_server.proofs.Covering.{covered}
use Rattle.yp_server.proofs.Stemming.{stems, leaves_traced}
use Rattle.yp_server.proofs.resources.take_apart.Goals as goal

pub returns-clause-covered : goal.returns-clause-covered
returns-clause-covered g c =
    covered g.D.Disk.history g.D.Disk.faults g.S.Accounts.disk_faults c.args.charge.now.failures c.close-publisher.result.0.maps
    c.disassemble-disks.result.0.items c.disassemble-disks.ensures.disks c.disassemble-disks.ensures.numbered
    c.close-publisher.ensures.covered

pub returns-clause-rises : goal.returns-clause-rises
returns-clause-rises g c = λ start told.
    subst (λ board. IsRisingLog (g.B.Show.log board)) (sym c.disassemble-disks.ensures.board)
    (c.close-publisher.ensures.rises start (subst (AreTold g.D.Disk.history) c.disassemble-disks.ensures.disks told))

pub returns-clause-sourced : goal.returns-clause-sourced
returns-clause-sourced g c = λ made low start told.
    stems g.D.Disk.history g.S.Accounts.built g.S.Accounts.first g.S.Site.catalogue g.B.Show.log c.close-publisher.result.0
    c.disassemble-disks.result.1 c.disassemble-disks.result.0.items made c.close-publisher.result.1.amount
    c.close-publisher.ensures.catalogue c.disassemble-disks.ensures.board c.disassemble-disks.ensures.stand.0
    c.disassemble-disks.ensures.stand.1
    (c.close-publisher.ensures.sourced made low start (subst (AreTold g.D.Disk.history) c.disassemble-disks.ensures.disks told))

pub returns-clause-traced : goal.returns-clause-traced
returns-clause-traced g c = λ start.
    leaves_traced g.D.Disk.history g.S.Accounts.built g.S.Accounts.first g.S.Site.catalogue g.B.Show.log
    c.close-publisher.result.2 g.S.Accounts.histories c.close-publisher.result.0 c.disassemble-disks.result.1
    c.disassemble-disks.result.0.items c.close-publisher.ensures.catalogue c.disassemble-disks.ensures.board
    c.disassemble-disks.ensures.stand.0 c.disassemble-disks.ensures.stand.1 (c.close-publisher.ensures.traced start)
