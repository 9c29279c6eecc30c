use Rattle.std.proofs.Common.{refl}
use Rattle.yp_publisher.specs.Keeping.{keeping_of}
use Rattle.yp_host.specs.inside.Locals.{telling_by}
use Rattle.yp_host.proofs.Making.{none_built, one_built}
use Rattle.yp_host.proofs.local.LocalHost.make_level.Goals as goal

pub returns-in_err-version-clause-unmade : goal.returns-in_err-version-clause-unmade
returns-in_err-version-clause-unmade g c =
    let host = c.self.inside in
    none_built (keeping_of g.D.Disk.history g.D.Disk.faults g.B.Show.log) (telling_by g.T.Texts g.C.Clock g.A.Dial) c.args.job c.from_residual.result _ _
    (record { published = host.publisher; desk = c.build_for.new.desk; asked = host.asked; files = host.files; transfers = host.transfers })
    c.self.view_is c.in_err-version.field-0.0 c.from_residual.ensures.1 c.in_err-version.ensures.unbuilt refl

pub returns-clause-unmade : goal.returns-clause-unmade
returns-clause-unmade g c =
    let host = c.self.inside in
    one_built (keeping_of g.D.Disk.history g.D.Disk.faults g.B.Show.log) (telling_by g.T.Texts g.C.Clock g.A.Dial) c.args.job c.install.result _ _
    (record { published = c.install.new.publisher; desk = c.build_for.new.desk; asked = host.asked; files = host.files; transfers = host.transfers })
    c.self.view_is c.in_ok-version.version c.in_ok-version.ensures.anew c.install.ensures.failed
