-- The parts of `xfr`: the map as it is loaded, the fetch, and what is stored of it.
use Rattle.std.specs.Prelude.{◌≡◌, ℕ, Bool, true, false, List, [], ◌∷◌, Option, None}
use Rattle.std.specs.Prelude.{Result, Ok, Err}
use Rattle.yp_io.specs.Disk.{History, LeavesOnly, MayLeave}
use Rattle.yp_version.specs.Versions.{MapVersion}
use Rattle.yp_map_file.specs.declared.fault.SlotFault.{SlotFault}
use Rattle.yp_map_file.specs.declared.fault.SlotFault.TheVariants as slot
use Rattle.yp_board.specs.Catalogues.{Catalogue, Name, name_view}
use Rattle.yp_board.specs.inside.Catalogues.{catalog_fault}
use Rattle.yp_publisher.specs.declared.install.Installed.{Installed}
use Rattle.yp_publisher.specs.declared.open.OpenFault.{OpenFault}
use Rattle.yp_publisher.specs.declared.open.OpenFault.TheVariants as opening
use Rattle.yp_transfer.specs.declared.fault.XfrFault.{XfrFault}
use Rattle.yp_transfer.specs.Fetching.{FetchOutcome}
use Rattle.yp_io.specs.Dials.{Dialing}
use Rattle.yp_command.specs.Words.{host_view}
use Rattle.yp_command.specs.inside.Words.{IsNamed}
use Rattle.yp_command.specs.office.Files.{Fails}
use Rattle.yp_command.specs.declared.office.status.Status.{Status}
use Rattle.yp_command.specs.declared.command.XfrJob.{XfrJob}
use Rattle.yp_command_maps.specs.declared.xfr.XfrStop.{XfrStop}
use Rattle.yp_command_maps.specs.declared.xfr.XfrStop.TheVariants as stop
use Rattle.yp_command_maps.specs.Disks.{DiskTells}
use Rattle.yp_command_maps.specs.Build.{LeavesFew}
use Rattle.yp_command_maps.specs.Xfr.{Job, FileVersion, IsFileVersion, StoresOn, TransfersOn, IsNotLoaded, TellsXfr}

-- ---- what is to be transferred

-- the catalogue of the map alone
abbrev pub catalogue_of : Job → Catalogue
catalogue_of job = record { own = job.name; maps = job.store ∷ [] }

-- A catalogue may have the map alone, a file may have its name, and its disk is the only one.
pub record IsReady (job : Job) (disks : List Name) : Type 0 where
  pub named : IsNamed job.store
  pub catalogue : catalog_fault job.name (job.store ∷ []) ≡ None
  pub only : disks ≡ job.store ∷ []

-- ---- the dial, and the disk of the map

-- The outcome of a fetch was stored in the only map of a publisher, which showed this version before.
pub record StoresFetched (job : Job) (shows : Option MapVersion) (outcome : FetchOutcome)
    (result : Result Installed XfrFault) (old new : DiskTells) : Type 0 where
  pub held : FileVersion
  pub shown : held.version ≡ shows
  pub stores : StoresOn job held outcome result old new
  pub few : LeavesFew old.history new.history

-- The file wasn't loaded, and at each moment a crash leaves no more than the most bytes of a file.
pub record LeavesUnloaded (why : SlotFault) (old new : Option History) (faults faults' : ℕ) : Type 0 where
  pub unloaded : IsNotLoaded why old new faults faults'
  pub few : LeavesFew old new

-- The file of the map was loaded, a publisher showed this version of it, and nothing was written to it.
pub record KeepsLoaded (shows : Option MapVersion) (old new : Option History) (faults faults' : ℕ) : Type 0 where
  pub held : FileVersion
  pub shown : held.version ≡ shows
  pub is_held : IsFileVersion old held
  pub unwritten : LeavesOnly old new (MayLeave old)
  pub few : LeavesFew old new

-- ---- what the code has

abbrev pub xfr_job_view : XfrJob → Job
xfr_job_view job = record {
  name = job.name.items;
  force = job.force;
  store = name_view job.store;
  host = host_view job.host;
  flag = job.flag;
}

-- why the file of a map isn't loaded where no publisher is opened
abbrev pub why_of_open : OpenFault → SlotFault
why_of_open (opening.Refused map why) = why
why_of_open opening.NoMemory = slot.NoMemory

-- What a transfer did to its dial and to its disk, or why the file of its map wasn't loaded.
abbrev pub XfrMoves : Job → Result Installed XfrStop → (before after : Dialing) → (old new : DiskTells) → Type 0
XfrMoves job (Ok installed) before after old new = TransfersOn job (Ok installed) before after old new
XfrMoves job (Err (stop.Fault why)) before after old new = TransfersOn job (Err why) before after old new
XfrMoves job (Err (stop.Unloaded why)) before after old new =
    IsNotLoaded why old.history new.history old.faults new.faults

-- whether the file of the map wasn't loaded, so that nothing was dialed
abbrev pub is_undialed : Result Installed XfrStop → Bool
is_undialed (Err (stop.Unloaded why)) = true
is_undialed result = false

-- ---- what is told

-- what is told where a transfer was stored, or was stopped
abbrev pub IsXfrEnd : Name → Result Installed XfrStop → Status → Option (List ℕ) → Option (List ℕ) → Type 0
IsXfrEnd store (Ok installed) status before after = TellsXfr store (Ok installed) status before after
IsXfrEnd store (Err (stop.Fault why)) status before after = TellsXfr store (Err why) status before after
IsXfrEnd store (Err (stop.Unloaded why)) status before after = Fails store why status × (after ≡ before)
