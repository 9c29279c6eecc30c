-- The parts of `build`: the version that stands, the text, and the first reason to stop.
use Rattle.std.specs.Prelude.{◌≡◌, ◌⊎◌, ℕ, ◌+◌, ◌≤◌, Bool, true, false, List, length, Option, Some}
use Rattle.std.specs.Prelude.{None, option_map}
use Rattle.std.specs.Prelude.{Result, Ok, Err, IfSome, IfOk, IfErr, OnOk, IsTrue}
use Rattle.std.specs.Prelude.{⊤}
use Rattle.yp_io.specs.Counts.{HasRisen}
use Rattle.std.specs.Borrow.{Bor}
use Rattle.yp_io.specs.Texts.{text_max}
use Rattle.yp_io.specs.Disk.{LeavesOnly, MayLeave}
use Rattle.yp_version.specs.Limits.{master_max}
use Rattle.yp_version.specs.Versions.{MapVersion}
use Rattle.yp_map_file.specs.declared.fault.SlotFault.TheVariants as slot
use Rattle.yp_map_file.specs.Commits.{generation_of, winning}
use Rattle.yp_map_file.specs.Stands.{stands}
use Rattle.yp_board.specs.Catalogues.{name_view}
use Rattle.yp_texts.specs.declared.fault.BuildFault.{BuildFault}
use Rattle.yp_texts.specs.declared.fault.BuildFault.TheVariants as fault
use Rattle.yp_texts.specs.declared.after.AfterFault.{AfterFault}
use Rattle.yp_texts.specs.declared.after.AfterFault.TheVariants as after
use Rattle.yp_texts.specs.After.{HasOther, HasFault}
use Rattle.yp_publisher.specs.declared.install.Origin.TheVariants as Origin
use Rattle.yp_publisher.specs.declared.open.OpenFault.{OpenFault}
use Rattle.yp_publisher.specs.declared.open.OpenFault.TheVariants as opening
use Rattle.yp_publisher.specs.Installs.{offer, no_further, install_refusal}
use Rattle.yp_publisher.specs.Installs as installs
use Rattle.yp_publisher.specs.Standing.{StoredMap, Level, stands_for}
use Rattle.yp_command_maps.specs.declared.build.BuildJob.{BuildJob}
use Rattle.yp_command_maps.specs.declared.build.Built.{Built}
use Rattle.yp_command_maps.specs.declared.build.BuildStop.{BuildStop}
use Rattle.yp_command_maps.specs.declared.build.BuildStop.TheVariants as stop
use Rattle.yp_board.specs.declared.catalog.MapName.{MapName}
use Rattle.yp_io.specs.declared.whole.Unread.{Unread}
use Rattle.yp_io.specs.declared.whole.Unread.TheVariants as unread
use Rattle.yp_command.specs.declared.office.status.Status.{Status}
use Rattle.yp_command.specs.declared.office.status.Status.TheVariants.{ReadFault, TooLong, NoMemory, Damaged}
use Rattle.yp_command.specs.declared.office.status.Status.TheVariants.{DiskFault, Refused, GenerationsSpent}
use Rattle.yp_command_maps.specs.Disks.{DiskTells}
use Rattle.yp_command_maps.specs.Build.{Job, build_inputs, Unplanned, offered, with_generation, planned, StandsForPlan}
use Rattle.yp_command_maps.specs.Build.{build_line, fault_status, TellsLine, IsBeforeOrPlanned, PlanIsStored, LeavesFew}
use Rattle.yp_command_maps.specs.Build.{IsDamaged, Hinders, IsSpent}

-- ---- what the code has

abbrev pub job_view : BuildJob → Job
job_view job = record { name = job.name.items; store = name_view job.store; reading = job.reading; flag = job.flag }

-- the version that stands, if one does
abbrev pub last_view : Option (Bor MapVersion) → Option MapVersion
last_view last = option_map (λ version. version.now) last

-- ---- what stops a build once the text was read

-- the plan refuses so, or the disk failed or memory ran out
abbrev pub StopsBuild : Result MapVersion Unplanned → BuildStop → Type 0
StopsBuild plan (stop.Damaged at rule) = plan ≡ Err (IsDamaged at rule)
StopsBuild plan (stop.Master master) = plan ≡ Err (Hinders (HasOther master.items))
StopsBuild plan (stop.Fault fault) = plan ≡ Err (Hinders (HasFault fault))
StopsBuild plan stop.Spent = plan ≡ Err IsSpent
StopsBuild plan stop.Disk = ⊤
StopsBuild plan stop.NoMemory = ⊤

-- what stops a build where no publisher is opened
abbrev pub stop_of_open : OpenFault → BuildStop
stop_of_open (opening.Refused map (slot.Damaged at rule)) = stop.Damaged at rule
stop_of_open (opening.Refused map slot.DiskFault) = stop.Disk
stop_of_open (opening.Refused map slot.NoMemory) = stop.NoMemory
stop_of_open opening.NoMemory = stop.NoMemory

-- what stops it where no version is built
abbrev pub stop_of_build : BuildFault → BuildStop
stop_of_build fault.NoMemory = stop.NoMemory
stop_of_build why = stop.Fault why

abbrev pub stop_of_after : AfterFault → BuildStop
stop_of_after (after.Foreign master) = stop.Master master
stop_of_after (after.Build why) = stop_of_build why

-- whether nothing was written by then
abbrev pub is_early : BuildStop → Bool
is_early (stop.Damaged at rule) = true
is_early (stop.Master master) = true
is_early (stop.Fault fault) = true
is_early stop.Spent = true
is_early stop.Disk = false
is_early stop.NoMemory = false

-- this is what was stored, as it is planned, behind this generation
pub record IsBuiltAsPlanned (plan : Result MapVersion Unplanned) (generation : ℕ) (made : Built) : Type 0 where
  pub version : MapVersion
  pub planned : plan ≡ Ok version
  pub order : made.order ≡ version.order
  pub rows : made.rows ≡ length version.rows
  pub numbered : made.generation ≡ generation + 1

-- ---- statuses

-- the status of a text that wasn't read
abbrev pub unread_status : Unread → Status
unread_status unread.Failed = ReadFault
unread_status unread.TooLong = TooLong text_max
unread_status unread.NoMemory = NoMemory

-- the status of a build of this map that was stopped
abbrev pub IsStatusOfStop : MapName → BuildStop → Status → Type 0
IsStatusOfStop store (stop.Damaged at rule) status = status ≡ Damaged store at rule
IsStatusOfStop store (stop.Master master) status = status ≡ Refused master
IsStatusOfStop store (stop.Fault fault) status = status ≡ fault_status fault
IsStatusOfStop store stop.Spent status = status ≡ GenerationsSpent store
IsStatusOfStop store stop.Disk status = status ≡ DiskFault store
IsStatusOfStop store stop.NoMemory status = status ≡ NoMemory

-- the name in it is within its limit
abbrev pub IsShortStop : BuildStop → Type 0
IsShortStop (stop.Master master) = length master.items ≤ master_max
IsShortStop _ = ⊤

-- a build ended so: its line was written, or a front of it; or it was stopped, and nothing was written
abbrev pub IsBuildEnd : MapName → Result Built BuildStop → Status → Option (List ℕ) → Option (List ℕ) → Type 0
IsBuildEnd store (Ok made) status before after =
    TellsLine (build_line (name_view store) made.order made.rows made.generation) status before after
IsBuildEnd store (Err why) status before after = IsStatusOfStop store why status × (after ≡ before)

-- ---- the only map of a publisher

-- what is planned behind the version that is shown
abbrev pub plan_of : {D : Type 0} → Job → List ℕ → ℕ → StoredMap D → Result MapVersion Unplanned
plan_of job text now kept = with_generation kept.generation (offered job text now kept.version)

-- nothing but the generation may stand against a version that was built
pub record IsAccepted {D : Type 0} (own : List ℕ) (version : MapVersion) (kept : StoredMap D) : Type 0 where
  pub level : kept.standing ≡ Level
  pub cause : install_refusal own (offer version Origin.Built false) kept ≡ no_further kept.generation

-- an install of such a version was stopped by its generation, or by the disk or for want of memory
abbrev pub StopsInstall : Option installs.Refusal → BuildStop → Type 0
StopsInstall cause stop.Spent = cause ≡ Some installs.IsSpent
StopsInstall cause stop.Disk = cause ≡ None
StopsInstall cause stop.NoMemory = cause ≡ None
StopsInstall cause _ = ⊥

-- These bytes stand for the shown version or for the planned one.
abbrev pub IsShownOrPlanned : {D : Type 0} → Result MapVersion Unplanned → StoredMap D → List ℕ → Type 0
IsShownOrPlanned plan kept image = (stands image ≡ stands_for kept.version) ⊎ StandsForPlan plan image

-- ---- the disk of the map

-- What a build does to the disk of its map, whose file is told or not, before and after.
pub record BuildsOn (job : Job) (text : List ℕ) (now : ℕ) (result : Result Built BuildStop) (old new : DiskTells)
    : Type 0 where
  pub built : IfOk result (λ made. IfSome old.history
      (λ h. IsBuiltAsPlanned (planned job (build_inputs text now h)) (generation_of (winning h.state.reads)) made))
  pub stopped : IfErr result (λ why. IfSome old.history (λ h. StopsBuild (planned job (build_inputs text now h)) why))
  pub stored : OnOk result (IfSome old.history (λ h. PlanIsStored job (build_inputs text now h) new.history))
  pub any_moment : IfSome old.history (λ h. LeavesOnly old.history new.history
      (IsBeforeOrPlanned job (build_inputs text now h) old.history))
  pub few : LeavesFew old.history new.history
  pub early : IfErr result (λ why. IsTrue (is_early why) → LeavesOnly old.history new.history (MayLeave old.history))
  pub never_falls : old.faults ≤ new.faults
  pub cause : IfErr result (λ why. why ≡ stop.Disk → HasRisen old.faults new.faults)
