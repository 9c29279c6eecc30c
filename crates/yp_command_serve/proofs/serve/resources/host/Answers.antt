use Rattle.std.proofs.Common.{◌∙◌}
use Rattle.yp_command_serve.specs.inside.serve.Hosting.{tells_by}
use Rattle.yp_command_serve.proofs.serve.Disks.{all_opened, stopped_count}
use Rattle.yp_command_serve.proofs.serve.Starts.{levels}
use Rattle.yp_command_serve.proofs.serve.Told.{hosted_of, unhosted_of}
use Rattle.yp_command_serve.proofs.serve.resources.host.Goals as goal

pub host_loaded-requires-clause-count : goal.host_loaded-requires-clause-count
host_loaded-requires-clause-count g c κs within =
    all_opened g.D.Disk.history g.D.Disk.faults c.args.resources.disks.items c.in-Ok.loaded c.in-Ok.ensures.loaded
    ∙ c.requires.count

pub host_loaded-requires-clause-level : goal.host_loaded-requires-clause-level
host_loaded-requires-clause-level g c κs within =
    levels g.D.Disk.history g.D.Disk.faults c.args.resources.disks.items c.in-Ok.loaded c.in-Ok.ensures.loaded

pub returns-in-Ok-clause-count : goal.returns-in-Ok-clause-count
returns-in-Ok-clause-count g c =
    c.host_loaded.ensures.count
    ∙ all_opened g.D.Disk.history g.D.Disk.faults c.args.resources.disks.items c.in-Ok.loaded c.in-Ok.ensures.loaded

pub returns-in-Err-clause-count : goal.returns-in-Err-clause-count
returns-in-Err-clause-count g c =
    (stopped_count g.D.Disk.history g.D.Disk.faults c.args.resources.disks.items c.in-Err.field-0.disks.items
    c.in-Err.field-0.map c.in-Err.field-0.fault c.in-Err.ensures.refused).0

pub returns-in-Ok-clause-hosted : goal.returns-in-Ok-clause-hosted
returns-in-Ok-clause-hosted g c =
    hosted_of g.D.Disk _ c.host_loaded.result.0 c.in-Ok.loaded
    (tells_by g.L.Hall g.I.Inbox g.T.Texts g.A.Dial c.args.resources) _ c.in-Ok.ensures.loaded
    c.host_loaded.ensures.hosted

pub returns-in-Ok-clause-unhosted : goal.returns-in-Ok-clause-unhosted
returns-in-Ok-clause-unhosted g c =
    unhosted_of g.D.Disk.history g.D.Disk.faults c.host_loaded.result.0 c.args.resources.disks.items c.in-Ok.loaded
    c.host_loaded.result.1.disks.items c.in-Ok.ensures.loaded c.host_loaded.ensures.unhosted c.host_loaded.ensures.disks
