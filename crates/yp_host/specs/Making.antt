-- The making of a map by a host of one thread: a map that is behind is opened again, a version is built, and what was
-- built is offered.
use Rattle.std.specs.Prelude.{◌≡◌, ◌⊎◌, ◌<◌, ℕ, false, length}
use Rattle.yp_messages.specs.declared.transfer.XfrStat.{XfrStat}
use Rattle.yp_messages.specs.declared.transfer.XfrStat.TheVariants.{Succ}
use Rattle.yp_version.specs.Versions.{MapVersion}
use Rattle.yp_map_file.specs.declared.fault.SlotFault.{SlotFault}
use Rattle.yp_answer.specs.declared.make.MakeJob.{MakeJob}
use Rattle.yp_publisher.specs.declared.install.InstallFault.{InstallFault}
use Rattle.yp_publisher.specs.declared.install.InstallFault.TheVariants as install
use Rattle.yp_publisher.specs.declared.install.Origin.TheVariants.{Built}
use Rattle.yp_publisher.specs.Standing.{Published}
use Rattle.yp_publisher.specs.Keeping.{Keeping}
use Rattle.yp_publisher.specs.Installs.{OfferedVersion, offer, Installs, Refuses}
use Rattle.yp_publisher.specs.Opens.{Opens, StaysBehind}
use Rattle.yp_publisher.specs.Stats.{slot_stat, install_stat}
use Rattle.yp_answer.specs.Causes.{Task, IsAnew, task_at}
use Rattle.yp_host.specs.Locals.{Local, Telling, IsUsed, LeavesDial}
use Rattle.yp_host.specs.Anew.{IsUnbuilt}

-- The map was behind and isn't opened, with this status. The status fixes the fault.
pub record StaysShut {D B : Type 0} (keeping : Keeping D B) (number : ℕ) (stat : XfrStat)
    (old new : Published D B) : Type 0 where
  pub fault : SlotFault
  pub stat_is : stat ≡ slot_stat fault
  pub stays : StaysBehind keeping number fault old new

-- a version that was built here, as it is offered
abbrev pub built_offer : MapVersion → OfferedVersion
built_offer version = offer version Built false

-- the status of a fault, FILE, or RSRC for want of memory: a version that was built for a level map, behind what is
-- shown of it, has no other one
abbrev pub IsInstallStat : InstallFault → XfrStat → Type 0
IsInstallStat install.Behind stat = ⊥
IsInstallStat (install.Refused master) stat = ⊥
IsInstallStat (install.Age shown order) stat = ⊥
IsInstallStat fault stat = stat ≡ install_stat fault

-- A version that was built isn't installed, with this status. The status fixes the fault, with what stands against the
-- version.
pub record IsUninstalled {D B : Type 0} (keeping : Keeping D B) (number : ℕ) (version : MapVersion) (stat : XfrStat)
    (old new : Published D B) : Type 0 where
  pub fault : InstallFault
  pub stat_is : IsInstallStat fault stat
  pub refuses : Refuses keeping number (built_offer version) fault old new

-- A version that was built is offered: it is installed, or it isn't.
abbrev pub OffersBuilt : {D B : Type 0} → Keeping D B → ℕ → MapVersion → XfrStat → Published D B → Published D B
    → Type 0
OffersBuilt keeping number version stat old new =
    ((stat ≡ Succ) × Installs keeping number (built_offer version) old new)
    ⊎ IsUninstalled keeping number version stat old new

-- what is made of the map, behind what is shown of it
abbrev pub task_on : {D B : Type 0} → Keeping D B → MakeJob → Published D B → Task
task_on keeping job published = task_at published.catalogue job (keeping.log published.board)

-- No version was built, and the maps stay; or one was built, and came to this.
abbrev pub Tries : {D B E : Type 0} → Keeping D B → Telling E → MakeJob → XfrStat → Local D B E → Local D B E
    → Type 0
Tries keeping telling job stat old new =
    (IsUnbuilt (telling.told old.desk) (telling.faults old.desk) (telling.faults new.desk)
    (task_on keeping job old.published) stat × (new.published ≡ old.published))
    ⊎ ((version : MapVersion) × IsAnew (telling.told old.desk) (task_on keeping job old.published) version
    × OffersBuilt keeping job.map version stat old.published new.published)

-- The map is level, where it was behind by opening its file again, and then it is tried to make it. The maps between
-- are the old ones, and where the map was behind it has what its file stood for.
pub record OpensAndTries {D B E : Type 0} (keeping : Keeping D B) (telling : Telling E) (job : MakeJob) (stat : XfrStat)
    (old new : Local D B E) : Type 0 where
  pub middle : Published D B
  pub opens : Opens keeping job.map old.published middle
  pub tries : Tries keeping telling job stat (record old { published = middle }) new

-- What the making of a map does: its file can't be opened, or its map is level and it is tried to make it.
pub record Makes {D B E : Type 0} (keeping : Keeping D B) (telling : Telling E) (job : MakeJob) (stat : XfrStat)
    (old new : Local D B E) : Type 0 where
  pub desk : IsUsed telling old.desk new.desk
  pub dial : LeavesDial telling old.desk new.desk
  pub asked : new.asked ≡ old.asked
  pub transfers : new.transfers ≡ old.transfers
  pub ends : StaysShut keeping job.map stat old.published new.published
      ⊎ OpensAndTries keeping telling job stat old new

-- A call of the host made one of its maps, with this status.
abbrev pub MapIsMade : {D B E : Type 0} → Keeping D B → Telling E → MakeJob → XfrStat → Local D B E → Local D B E
    → Type 0
MapIsMade keeping telling job stat old new =
    (job.map < length old.published.maps) × Makes keeping telling job stat old new
