use Rattle.std.proofs.Common.{rules}
use Rattle.yp_messages.specs.declared.transfer.XfrStat.TheVariants.{Succ, File}
use Rattle.yp_publisher.specs.Keeping.{keeping_of}
use Rattle.yp_host.specs.inside.Locals.{telling_by}
use Rattle.yp_host.proofs.Making.{recounted}
use Rattle.yp_host.proofs.Causing.{fulfilled}
use Rattle.yp_host.proofs.local.LocalHostHost.make.Goals as goal

pub returns-in-Ok : goal.returns-in-Ok
returns-in-Ok g c =
    fulfilled (keeping_of g.D.Disk.history g.D.Disk.faults g.B.Show.log) (telling_by g.T.Texts g.C.Clock g.A.Dial)
    c.args.job c.args.self.now c.make_anew.new.self Succ (search rules) (search rules) (search rules) (search rules) (search rules)

pub returns-in-Err : goal.returns-in-Err
returns-in-Err g c =
    fulfilled (keeping_of g.D.Disk.history g.D.Disk.faults g.B.Show.log) (telling_by g.T.Texts g.C.Clock g.A.Dial)
    c.args.job c.args.self.now c.make_anew.new.self c.in-Err.stat (search rules) (search rules) (search rules) (search rules) (search rules)

pub returns-in-Err-File : goal.returns-in-Err-File
returns-in-Err-File g c =
    fulfilled (keeping_of g.D.Disk.history g.D.Disk.faults g.B.Show.log) (telling_by g.T.Texts g.C.Clock g.A.Dial)
    c.args.job c.args.self.now _ File (search rules)
    (recounted _ _ _ _ _ _ _ c.saturating_add-self-inside.result c.self.view_is (rw c.in-Err-File.field-0-is at c.in-Err-File.ensures.unmade))
    (search rules) (search rules) (search rules)
