use Rattle.yp_command_maps.specs.inside.Xfr.{xfr_job_view}
use Rattle.yp_command_maps.proofs.Transferring.{installed_only}
use Rattle.yp_command_maps.proofs.fetched.store_fetched.Goals as goal

pub returns : goal.returns
returns g c = λ disks one begins.
    let installs = installed_only g.D.Disk.history g.D.Disk.faults (xfr_job_view c.args.job.now) disks
    c.into_parts-disks.result.0.items c.args.publisher c.install_outcome-done.new.publisher c.args.outcome
    c.install_outcome-done.result one begins c.into_parts-disks.ensures.disks c.install_outcome-done.ensures in
    (installs.stores, installs.count)
