-- What `xfr` fetches, stores and tells.
use Rattle.std.specs.Prelude.{◌≡◌, ◌⊎◌, ℕ, ◌+◌, Bool, true, false, List, [], ◌∷◌, ◌++◌, Option, Some, None, option_map}
use Rattle.std.specs.Prelude.{Result, Ok, Err, codes, decimal, IfSome, OnOk, IsSome, ⊤}
use Rattle.std.specs.Option.{option_or}
use Rattle.yp_io.specs.Counts.{HasRisen}
use Rattle.yp_io.specs.Disk.{History, LeavesOnly, MayLeave}
use Rattle.yp_version.specs.Versions.{MapVersion}
use Rattle.yp_map_file.specs.declared.fault.SlotFault.{SlotFault}
use Rattle.yp_map_file.specs.declared.fault.SlotFault.TheVariants as slot
use Rattle.yp_map_file.specs.Loads.{Loads}
use Rattle.yp_map_file.specs.Slots.{HasGeneration}
use Rattle.yp_map_file.specs.Stands.{Stored, stands}
use Rattle.yp_board.specs.Catalogues.{Name}
use Rattle.yp_board.specs.declared.catalog.MapName.{MapName}
use Rattle.yp_publisher.specs.declared.install.Installed.{Installed}
use Rattle.yp_publisher.specs.declared.install.Origin.TheVariants.{Fetched}
use Rattle.yp_publisher.specs.Installs.{Refusal, HasMaster, IsNotNewer, IsSpent, offer, not_following}
use Rattle.yp_publisher.specs.Installs.{no_further}
use Rattle.yp_publisher.specs.Standing.{stands_for}
use Rattle.yp_transfer.specs.declared.fault.XfrFault.{XfrFault}
use Rattle.yp_transfer.specs.declared.fault.XfrFault.TheVariants as fault
use Rattle.yp_transfer.specs.Fetching.{Wanted, wanted_of, FetchOutcome}
use Rattle.yp_io.specs.Dials.{Dialing, dialing_of}
use Rattle.yp_transfer.specs.Dialing.{FetchesFrom}
use Rattle.yp_transfer.specs.Installing.{marking}
use Rattle.yp_command.specs.Forms.{Host}
use Rattle.yp_command.specs.office.Lines.{map_text}
use Rattle.yp_command.specs.office.Files.{Fails}
use Rattle.yp_command.specs.office.Disks.{names_of, faults_of}
use Rattle.yp_command.specs.office.Seeing.{Seeing, output, history, WriteFails, DiskFails}
use Rattle.yp_command.specs.declared.office.office.Office.{Office}
use Rattle.yp_command.specs.declared.office.status.Status.{Status}
use Rattle.yp_command.specs.declared.office.status.Status.TheVariants.{Done, WriteFault, NoMemory, Damaged, DiskFault, Xfr}
use Rattle.yp_command_maps.specs.Disks.{DiskTells, disk_tells}
use Rattle.yp_command_maps.specs.Build.{TellsLine, LeavesFew}

-- ---- what is to be transferred

-- the own name, whether the order doesn't count, the map, the host that has it, and whether the version is to be
-- secure, where that is said
pub record Job : Type 0 where
  pub name : List ℕ
  pub force : Bool
  pub store : Name
  pub host : Host
  pub flag : Option Bool

abbrev pub xfr_job_of : List ℕ → Bool → Name → Host → Option Bool → Job
xfr_job_of name force store host flag =
    record { name = name; force = force; store = store; host = host; flag = flag }

-- what the file of the map had: its version, or none, and its generation
pub record FileVersion : Type 0 where
  pub version : Option MapVersion
  pub generation : ℕ

-- The file had this version and this generation, where the disk tells what it has.
pub record IsFileVersion (file : Option History) (held : FileVersion) : Type 0 where
  pub version : IfSome file (λ h. stands h.state.reads ≡ stands_for held.version)
  pub generation : HasGeneration file held.generation

-- what is asked of the host
abbrev pub wanted : Job → FileVersion → Wanted
wanted job held =
    wanted_of job.store.0 job.store.1 (option_map (λ version. version.order) held.version) job.force

-- ---- what is stored

-- a version that was fetched, secure or not by the flag, and without one as the version that stood
abbrev pub marked : Job → FileVersion → MapVersion → MapVersion
marked job held version = record version { secure = marking job.flag held.version }

-- why it isn't stored, the first reason that applies
abbrev pub against : Job → FileVersion → MapVersion → Option Refusal
against job held version =
    option_or (not_following job.name (offer (marked job held version) Fetched job.force) held.version)
    (no_further held.generation)

-- These bytes stand for the fetched version.
abbrev pub IsFetchedIn : Job → FileVersion → FetchOutcome → List ℕ → Type 0
IsFetchedIn job held (Ok version) image = stands image ≡ Stored (marked job held version)
IsFetchedIn job held (Err why) image = ⊥

-- a crash might have left these bytes before, or they stand for what stood, or for the version that was fetched
abbrev pub IsBeforeOrFetched : Job → FileVersion → FetchOutcome → Option History → List ℕ → Type 0
IsBeforeOrFetched job held outcome old image =
    MayLeave old image ⊎ ((stands image ≡ stands_for held.version) ⊎ IsFetchedIn job held outcome image)

-- no version came, or something stands against it
abbrev pub IsUnwanted : Job → FileVersion → FetchOutcome → Type 0
IsUnwanted job held (Ok version) = IsSome (against job held version)
IsUnwanted job held (Err why) = ⊤

-- A version that came isn't stored, for what stands against it; or, where nothing does, since the disk failed or memory
-- ran out.
abbrev pub IsNotStored : Option Refusal → Type 0 → XfrFault → Type 0
IsNotStored cause DiskFailed fault.Refused = (master : List ℕ) × (cause ≡ Some (HasMaster master))
IsNotStored cause DiskFailed (fault.Age shown offered) = cause ≡ Some (IsNotNewer shown offered)
IsNotStored cause DiskFailed fault.File = (cause ≡ Some IsSpent) ⊎ ((cause ≡ None) × DiskFailed)
IsNotStored cause DiskFailed fault.NoMemory = ⊤
IsNotStored cause DiskFailed why = ⊥

-- What came of a fetch is stored, with the next generation, where nothing stands against it.
abbrev pub StoresOutcome : Job → FileVersion → Type 0 → FetchOutcome → Result Installed XfrFault → Type 0
StoresOutcome job held DiskFailed (Err why) result = result ≡ Err why
StoresOutcome job held DiskFailed (Ok version) (Ok installed) =
    (against job held version ≡ None)
    × (installed ≡ record { order = version.order; generation = held.generation + 1 })
StoresOutcome job held DiskFailed (Ok version) (Err why) = IsNotStored (against job held version) DiskFailed why

-- ---- the dial, and the disk of the map

-- What came of a fetch was stored on the disk of a map whose file had this, or wasn't, with what the disk told before
-- and after. A crash leaves what stood or what was fetched.
pub record StoresOn (job : Job) (held : FileVersion) (outcome : FetchOutcome) (result : Result Installed XfrFault)
    (old new : DiskTells) : Type 0 where
  pub is_held : IsFileVersion old.history held
  pub comes : StoresOutcome job held (HasRisen old.faults new.faults) outcome result
  pub stored : OnOk result ((image : List ℕ) → MayLeave new.history image → IsFetchedIn job held outcome image)
  pub any_moment : LeavesOnly old.history new.history (IsBeforeOrFetched job held outcome old.history)
  pub unwritten : IsUnwanted job held outcome → LeavesOnly old.history new.history (MayLeave old.history)

-- What a transfer does to its dial and to the disk of its map: the four calls, or those up to the refusal, were made on
-- one wire to the host, and what came of them is stored or refused. The disk tells what the file had, and the wire what
-- came of the calls, unless it failed or memory ran out.
pub record TransfersOn (job : Job) (result : Result Installed XfrFault) (before after : Dialing) (old new : DiskTells)
    : Type 0 where
  pub held : FileVersion
  pub outcome : FetchOutcome
  pub fetches : FetchesFrom (job.host ∷ []) job.host.0 (wanted job held) outcome before after
  pub stores : StoresOn job held outcome result old new

-- The file of the map wasn't loaded, and nothing was written to it.
pub record IsNotLoaded (why : SlotFault) (old new : Option History) (faults faults' : ℕ) : Type 0 where
  pub cause : IfSome old (λ h. Loads (stands h.state.reads) (Err why))
  pub disk_fault : why ≡ slot.DiskFault → HasRisen faults faults'
  pub unwritten : LeavesOnly old new (MayLeave old)

-- ---- what is told

-- the line of what was stored
abbrev pub xfr_line : Name → (order generation : ℕ) → List ℕ
xfr_line store order generation =
    map_text store ++ codes " order " ++ decimal order ++ codes " generation " ++ decimal generation ++ codes "\n"

-- What is told of a transfer: its line, or a front of it, or why nothing was transferred, and then nothing is written.
abbrev pub TellsXfr : Name → Result Installed XfrFault → Status → Option (List ℕ) → Option (List ℕ) → Type 0
TellsXfr store (Ok installed) status before after =
    TellsLine (xfr_line store installed.order installed.generation) status before after
TellsXfr store (Err fault.NoMemory) status before after = (status ≡ NoMemory) × (after ≡ before)
TellsXfr store (Err why) status before after = (status ≡ Xfr why) × (after ≡ before)

-- ---- the command

-- what the dial of an office tells
abbrev pub dialing : {S K D C A I T : Type 0} → Seeing S K D C A I T → Office S K D C A I T → Dialing
dialing seen office = dialing_of seen.dial.past seen.dial.faults office.dial

-- how often its disks have failed
abbrev pub disk_faults : {S K D C A I T : Type 0} → Seeing S K D C A I T → Office S K D C A I T → ℕ
disk_faults seen office = faults_of seen.disk.faults office.disks.items

-- The file was loaded, and the map was transferred, or wasn't.
pub record XfrTransfers {S K D C A I T : Type 0} (seen : Seeing S K D C A I T) (job : Job) (status : Status)
    (old new : Office S K D C A I T) : Type 0 where
  pub result : Result Installed XfrFault
  pub did : TransfersOn job result (dialing seen old) (dialing seen new) (disk_tells seen old) (disk_tells seen new)
  pub tells : TellsXfr job.store result status (output seen old) (output seen new)

-- The file wasn't loaded, or memory ran out before. Nothing was dialed or written.
pub record XfrDeclines {S K D C A I T : Type 0} (seen : Seeing S K D C A I T) (job : Job) (status : Status)
    (old new : Office S K D C A I T) : Type 0 where
  pub why : SlotFault
  pub did : IsNotLoaded why (history seen old) (history seen new) (disk_faults seen old) (disk_faults seen new)
  pub tells : Fails job.store why status
  pub stays : new ≡ record old { disks = new.disks }

-- the statuses with which `xfr` may end
abbrev pub xfr_may_end : Status → Bool
xfr_may_end Done = true
xfr_may_end WriteFault = true
xfr_may_end NoMemory = true
xfr_may_end (Damaged map at rule) = true
xfr_may_end (DiskFault map) = true
xfr_may_end (Xfr why) = true
xfr_may_end status = false

-- What `xfr` does: it loads the file of its map, fetches the map from its host over one wire, which is given back
-- before the disk is written, stores what came, and tells it; or the first reason why there is none is told. A line
-- that can't be written leaves the map stored. At each moment a crash leaves what it might have left before, or a file
-- that stands for what stood or for what was fetched.
pub record XfrDoes {S K D C A I T : Type 0} (seen : Seeing S K D C A I T) (job : Job) (status : Status)
    (old new : Office S K D C A I T) : Type 0 where
  pub does : XfrTransfers seen job status old new ⊎ XfrDeclines seen job status old new
  pub few : LeavesFew (history seen old) (history seen new)
  pub write_fault : status ≡ WriteFault → WriteFails seen old new
  pub disk_fault : (map : MapName) → status ≡ DiskFault map → DiskFails seen old new
  pub names : names_of new.disks.items ≡ names_of old.disks.items
  pub letters : seen.dial.letters new.dial ≡ seen.dial.letters old.dial
  pub stays : new ≡ record old { wire = record old.wire { sink = new.wire.sink }; disks = new.disks; dial = new.dial }
