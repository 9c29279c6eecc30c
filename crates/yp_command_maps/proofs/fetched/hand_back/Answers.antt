use Rattle.yp_command_maps.proofs.Transferring.{kept_only}
use Rattle.yp_command_maps.proofs.fetched.hand_back.Goals as goal

pub returns : goal.returns
returns g c = λ job disks one begins.
    kept_only g.D.Disk.history g.D.Disk.faults job disks c.into_parts-disks.result.0.items c.args.publisher one begins
    c.into_parts-disks.ensures.disks
