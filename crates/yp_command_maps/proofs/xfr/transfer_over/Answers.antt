use Rattle.std.proofs.Common.{Ok, Err}
use Rattle.yp_io.specs.Dials.{dialing_of}
use Rattle.yp_transfer.specs.inside.Requests.{request_view}
use Rattle.yp_command_maps.specs.inside.Xfr.{xfr_job_view}
use Rattle.yp_command_maps.proofs.Transferring.{did_named}
use Rattle.yp_command_maps.proofs.xfr.transfer_over.Goals as goal

pub returns-in-Ok-done-clause-moves : goal.returns-in-Ok-done-clause-moves
returns-in-Ok-done-clause-moves g c =
    (did_named g.D.Disk.history g.D.Disk.faults (xfr_job_view c.args.job.now) c.args.only.disks.items
    c.into_parts-disks.result.0.items c.in-Ok.publisher c.transfer-done.new.publisher c.args.only.catalog
    (Ok c.in-Ok-done.installed) (dialing_of g.A.Dial.past g.A.Dial.faults c.args.dial.now)
    (dialing_of g.A.Dial.past g.A.Dial.faults c.transfer-done.new.dial) c.args.hosts.now (request_view c.request_of.result)
    c.requires.only c.requires.catalogue c.in-Ok.ensures.begun c.into_parts-disks.ensures.disks c.requires.hosts
    c.request_of.ensures.request c.in-Ok-done.ensures.transfers).moves

pub returns-in-Ok-done-clause-few : goal.returns-in-Ok-done-clause-few
returns-in-Ok-done-clause-few g c =
    (did_named g.D.Disk.history g.D.Disk.faults (xfr_job_view c.args.job.now) c.args.only.disks.items
    c.into_parts-disks.result.0.items c.in-Ok.publisher c.transfer-done.new.publisher c.args.only.catalog
    (Ok c.in-Ok-done.installed) (dialing_of g.A.Dial.past g.A.Dial.faults c.args.dial.now)
    (dialing_of g.A.Dial.past g.A.Dial.faults c.transfer-done.new.dial) c.args.hosts.now (request_view c.request_of.result)
    c.requires.only c.requires.catalogue c.in-Ok.ensures.begun c.into_parts-disks.ensures.disks c.requires.hosts
    c.request_of.ensures.request c.in-Ok-done.ensures.transfers).few

pub returns-in-Ok-done-clause-only : goal.returns-in-Ok-done-clause-only
returns-in-Ok-done-clause-only g c =
    (did_named g.D.Disk.history g.D.Disk.faults (xfr_job_view c.args.job.now) c.args.only.disks.items
    c.into_parts-disks.result.0.items c.in-Ok.publisher c.transfer-done.new.publisher c.args.only.catalog
    (Ok c.in-Ok-done.installed) (dialing_of g.A.Dial.past g.A.Dial.faults c.args.dial.now)
    (dialing_of g.A.Dial.past g.A.Dial.faults c.transfer-done.new.dial) c.args.hosts.now (request_view c.request_of.result)
    c.requires.only c.requires.catalogue c.in-Ok.ensures.begun c.into_parts-disks.ensures.disks c.requires.hosts
    c.request_of.ensures.request c.in-Ok-done.ensures.transfers).count

pub returns-clause-moves : goal.returns-clause-moves
returns-clause-moves g c =
    (did_named g.D.Disk.history g.D.Disk.faults (xfr_job_view c.args.job.now) c.args.only.disks.items
    c.into_parts-disks.result.0.items c.in-Ok.publisher c.transfer-done.new.publisher c.args.only.catalog
    (Err c.in-Err-done.fault) (dialing_of g.A.Dial.past g.A.Dial.faults c.args.dial.now)
    (dialing_of g.A.Dial.past g.A.Dial.faults c.transfer-done.new.dial) c.args.hosts.now (request_view c.request_of.result)
    c.requires.only c.requires.catalogue c.in-Ok.ensures.begun c.into_parts-disks.ensures.disks c.requires.hosts
    c.request_of.ensures.request c.in-Err-done.ensures.transfers).moves

pub returns-clause-few : goal.returns-clause-few
returns-clause-few g c =
    (did_named g.D.Disk.history g.D.Disk.faults (xfr_job_view c.args.job.now) c.args.only.disks.items
    c.into_parts-disks.result.0.items c.in-Ok.publisher c.transfer-done.new.publisher c.args.only.catalog
    (Err c.in-Err-done.fault) (dialing_of g.A.Dial.past g.A.Dial.faults c.args.dial.now)
    (dialing_of g.A.Dial.past g.A.Dial.faults c.transfer-done.new.dial) c.args.hosts.now (request_view c.request_of.result)
    c.requires.only c.requires.catalogue c.in-Ok.ensures.begun c.into_parts-disks.ensures.disks c.requires.hosts
    c.request_of.ensures.request c.in-Err-done.ensures.transfers).few

pub returns-clause-only : goal.returns-clause-only
returns-clause-only g c =
    (did_named g.D.Disk.history g.D.Disk.faults (xfr_job_view c.args.job.now) c.args.only.disks.items
    c.into_parts-disks.result.0.items c.in-Ok.publisher c.transfer-done.new.publisher c.args.only.catalog
    (Err c.in-Err-done.fault) (dialing_of g.A.Dial.past g.A.Dial.faults c.args.dial.now)
    (dialing_of g.A.Dial.past g.A.Dial.faults c.transfer-done.new.dial) c.args.hosts.now (request_view c.request_of.result)
    c.requires.only c.requires.catalogue c.in-Ok.ensures.begun c.into_parts-disks.ensures.disks c.requires.hosts
    c.request_of.ensures.request c.in-Err-done.ensures.transfers).count
