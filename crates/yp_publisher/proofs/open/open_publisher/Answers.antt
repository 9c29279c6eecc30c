use Rattle.std.proofs.Common.{◌∙◌, map}
use Rattle.std.proofs.lemmas.Slice.Zip.{AllZip-long}
use Rattle.yp_publisher.specs.Opens.{IsOpened}
use Rattle.yp_publisher.specs.Standing.{StoredMap, versions}
use Rattle.yp_publisher.proofs.Opening.{opened_zip, stopped_zip, unopened, level}
use Rattle.yp_publisher.proofs.open.open_publisher.Goals as goal

pub returns-in-Err-clause-refused : goal.returns-in-Err-clause-refused
returns-in-Err-clause-refused g c =
    rw c.open_fault.ensures (unopened g.D.Disk.history g.D.Disk.faults c.args.disks.items c.in-Err.field-0.disks.items _
    _ c.in-Err.ensures.refused)

pub returns-in-Err-clause-unwritten : goal.returns-in-Err-clause-unwritten
returns-in-Err-clause-unwritten g c =
    stopped_zip g.D.Disk.history g.D.Disk.faults c.args.disks.items c.in-Err.field-0.disks.items _ _
    c.in-Err.ensures.refused

pub board_of-requires : goal.board_of-requires
board_of-requires g c =
    AllZip-long (IsOpened g.D.Disk.history g.D.Disk.faults) c.args.disks.items c.in-Ok.loaded c.in-Ok.ensures.loaded
    ∙ c.requires

pub new-requires-clause-maps : goal.new-requires-clause-maps
new-requires-clause-maps g c =
    AllZip-long (IsOpened g.D.Disk.history g.D.Disk.faults) c.args.disks.items c.in-Ok.loaded c.in-Ok.ensures.loaded
    ∙ c.requires

pub returns-in-Ok-board_of-clause-start : goal.returns-in-Ok-board_of-clause-start
returns-in-Ok-board_of-clause-start g c =
    let maps = c.in-Ok.loaded in
    let start = c.beginning_is_start.ensures (versions maps) (map (λ (kept : StoredMap g.row.D.Denot). kept.standing) maps)
    (level g.D.Disk.history g.D.Disk.faults c.args.disks.items maps c.in-Ok.ensures.loaded) in
    rw (c.new.ensures, c.in-Ok-board_of.ensures) start

pub returns-in-Err-board_of-clause-refused : goal.returns-in-Err-board_of-clause-refused
returns-in-Err-board_of-clause-refused g c =
    rw c.into_disks.ensures.disks (opened_zip g.D.Disk.history g.D.Disk.faults c.args.disks.items c.in-Ok.loaded
    c.in-Ok.ensures.loaded)

pub returns-in-Err-board_of-clause-unwritten : goal.returns-in-Err-board_of-clause-unwritten
returns-in-Err-board_of-clause-unwritten g c =
    rw c.into_disks.ensures.disks (opened_zip g.D.Disk.history g.D.Disk.faults c.args.disks.items c.in-Ok.loaded
    c.in-Ok.ensures.loaded)
