-- What `revnet` stores and tells: the reverse of the domain's netgroups, behind the version that stands.
use Rattle.std.specs.Prelude.{◌≡◌, ◌⊎◌, ◌<◌, ℕ, ◌+◌, Bool, true, false, List, length, Option, Some, None}
use Rattle.std.specs.Prelude.{bytes_eq, if◌then◌else◌, IfSome, IsTrue, ⊤}
use Rattle.std.specs.Io.KnownBytes.{Appends}
use Rattle.yp_io.specs.Counts.{HasRisen}
use Rattle.yp_io.specs.Streams.{AppendsFront}
use Rattle.yp_io.specs.Disk.{History, LeavesOnly, MayLeave}
use Rattle.yp_version.specs.Rows.{Row}
use Rattle.yp_version.specs.Drafts.{empty_draft, first_refused}
use Rattle.yp_version.specs.Versions.{MapVersion, unmarked}
use Rattle.yp_netgroup.specs.declared.reverse.field.Field.{Field}
use Rattle.yp_netgroup.specs.declared.reverse.field.Field.TheVariants.{User, Host}
use Rattle.yp_netgroup.specs.reverse.Reverse.{IsReverse}
use Rattle.yp_netgroup.specs.reverse.Refused.{RefusesRow}
use Rattle.yp_map_file.specs.Commits.{generation_of, winning, generation_max}
use Rattle.yp_map_file.specs.Slots.{IsAsBefore}
use Rattle.yp_map_file.specs.Stands.{Nothing, Stored, stands}
use Rattle.yp_map_file.specs.Stands as stood
use Rattle.yp_board.specs.Catalogues.{Name, name_view}
use Rattle.yp_board.specs.declared.catalog.MapName.{MapName}
use Rattle.yp_texts.specs.Builds.{order_after}
use Rattle.yp_texts.specs.After.{other_master, last_order, was_secure}
use Rattle.yp_publisher.specs.Standing.{stands_for}
use Rattle.yp_command.specs.Forms.{by_user}
use Rattle.yp_command.specs.Words.{netgroup_of}
use Rattle.yp_command.specs.declared.office.office.Office.{Office}
use Rattle.yp_command.specs.declared.office.status.Status.{Status}
use Rattle.yp_command.specs.declared.office.status.Status.TheVariants.{Done, WriteFault, NoMemory, Damaged, NoVersion}
use Rattle.yp_command.specs.declared.office.status.Status.TheVariants.{DiskFault, Rows, OrderSpent, Refused, GenerationsSpent}
use Rattle.yp_command.specs.office.Disks.{names_of, told_at, faults_at, IsOnlyRead}
use Rattle.yp_command.specs.office.Seeing.{Seeing, output, moment, WriteFails, DiskFails, HasCauses}
use Rattle.yp_command_maps.specs.Build.{build_line, LeavesFew, tells_stored, may_have_written}

-- ---- what is to be made

-- the own name, the map, and the part of a triple by which netgroups are reversed
pub record Job : Type 0 where
  pub name : List ℕ
  pub store : Name
  pub field : Field

-- the map of netgroups by users has users, and the other one hosts
abbrev pub field_of : List ℕ → Field
field_of map = if bytes_eq map by_user then User else Host

abbrev pub job_of : List ℕ → Name → Job
job_of name store = record { name = name; store = store; field = field_of store.1 }

-- what the outside held: the bytes of the map's file, those of the netgroups' file, and the moment
pub record RevnetInputs : Type 0 where
  pub file : List ℕ
  pub netgroup : List ℕ
  pub now : ℕ

-- what `revnet` reads, by the histories of the two disks
abbrev pub revnet_inputs : History → History → ℕ → RevnetInputs
revnet_inputs file netgroup now =
    record { file = file.state.reads; netgroup = netgroup.state.reads; now = now }

-- ---- the version that is made, or why none is

-- the own name is the master of the last version, if there is one, and this order is the next
pub record HasNextOrder (name : List ℕ) (now : ℕ) (last : Option MapVersion) (order : ℕ) : Type 0 where
  pub own : other_master name last ≡ None
  pub next : order_after (last_order last) now ≡ Some order

-- a version with the reverse of these rows, the next order and the own name, which is secure where the last one is
pub record IsReverseVersion (name : List ℕ) (field : Field) (now : ℕ) (last : Option MapVersion) (rows : List Row)
    (version : MapVersion) : Type 0 where
  pub order : HasNextOrder name now last version.order
  pub is : version ≡ record (unmarked version.order name version.rows) { secure = was_secure last }
  pub reverse : IsReverse rows field version.rows
  pub fits : first_refused (empty_draft version.order name) version.rows ≡ None

-- why none is made, the first reason that applies: the last version has another master, or the last order, or a row of
-- the reverse passes a limit
abbrev pub IsUnmade : List ℕ → Field → ℕ → Option MapVersion → List Row → Status → Type 0
IsUnmade name field now last rows (Refused master) = other_master name last ≡ Some master.items
IsUnmade name field now last rows OrderSpent =
    (other_master name last ≡ None) × (order_after (last_order last) now ≡ None)
IsUnmade name field now last rows (Rows row rule) =
    (order : ℕ) × HasNextOrder name now last order × RefusesRow rows field (empty_draft order name) row rule
IsUnmade name field now last rows NoMemory = ⊤
IsUnmade name field now last rows _ = ⊥

-- what the files stand for: the last version of the map, or none, and the netgroups
pub record FileVersions : Type 0 where
  pub last : Option MapVersion
  pub netgroup : MapVersion

-- The two files stand for these versions.
pub record AreFileVersions (inputs : RevnetInputs) (held : FileVersions) : Type 0 where
  pub last : stands inputs.file ≡ stands_for held.last
  pub netgroup : stands inputs.netgroup ≡ Stored held.netgroup

-- a version is made of what the files stand for
pub record ReverseIsPlanned (job : Job) (inputs : RevnetInputs) (version : MapVersion) : Type 0 where
  pub held : FileVersions
  pub is_held : AreFileVersions inputs held
  pub made : IsReverseVersion job.name job.field inputs.now held.last held.netgroup.rows version

-- No version is made of what the files stand for, for the reason that this status gives.
pub record ReverseIsHindered (job : Job) (inputs : RevnetInputs) (status : Status) : Type 0 where
  pub held : FileVersions
  pub is_held : AreFileVersions inputs held
  pub unmade : IsUnmade job.name job.field inputs.now held.last held.netgroup.rows status

-- the file of the map isn't damaged
pub record MapFileIsSound (inputs : RevnetInputs) : Type 0 where
  pub last : Option MapVersion
  pub stood : stands inputs.file ≡ stands_for last

-- the first file that is damaged, of the map and of the netgroups
abbrev pub IsDamaged : Job → RevnetInputs → Name → ℕ → ℕ → Type 0
IsDamaged job inputs map at rule =
    ((map ≡ job.store) × (stands inputs.file ≡ stood.Damaged at rule))
    ⊎ ((map ≡ netgroup_of job.store) × MapFileIsSound inputs × (stands inputs.netgroup ≡ stood.Damaged at rule))

-- a version is made, but the file of the map has the last generation
pub record IsSpent (job : Job) (inputs : RevnetInputs) : Type 0 where
  pub version : MapVersion
  pub planned : ReverseIsPlanned job inputs version
  pub last : generation_of (winning inputs.file) ≡ generation_max

-- Why nothing is stored, for each status, the first reason that applies.
abbrev pub StopsRevnet : Job → RevnetInputs → Status → Type 0
StopsRevnet job inputs (Damaged map at rule) = IsDamaged job inputs (name_view map) at rule
StopsRevnet job inputs (NoVersion map) =
    (name_view map ≡ netgroup_of job.store) × MapFileIsSound inputs × (stands inputs.netgroup ≡ Nothing)
StopsRevnet job inputs (Refused master) = ReverseIsHindered job inputs (Refused master)
StopsRevnet job inputs OrderSpent = ReverseIsHindered job inputs OrderSpent
StopsRevnet job inputs (Rows row rule) = ReverseIsHindered job inputs (Rows row rule)
StopsRevnet job inputs (GenerationsSpent map) = (name_view map ≡ job.store) × IsSpent job inputs
StopsRevnet job inputs (DiskFault map) = (name_view map ≡ job.store) ⊎ (name_view map ≡ netgroup_of job.store)
StopsRevnet job inputs NoMemory = ⊤
StopsRevnet job inputs _ = ⊥

-- ---- what is told

-- the statuses of a command that stored nothing
abbrev pub is_stop : Status → Bool
is_stop (Damaged map at rule) = true
is_stop (NoVersion map) = true
is_stop (Refused master) = true
is_stop OrderSpent = true
is_stop (Rows row rule) = true
is_stop (GenerationsSpent map) = true
is_stop (DiskFault map) = true
is_stop NoMemory = true
is_stop _ = false

-- the statuses with which `revnet` may end
abbrev pub revnet_may_end : Status → Bool
revnet_may_end Done = true
revnet_may_end WriteFault = true
revnet_may_end status = is_stop status

-- there is a version, with P
abbrev pub OfMade : Option MapVersion → (MapVersion → Type 0) → Type 0
OfMade None P = ⊥
OfMade (Some version) P = P version

-- These bytes stand for this version, where one is made.
abbrev pub StandsForVersion : Option MapVersion → List ℕ → Type 0
StandsForVersion made image = OfMade made (λ version. stands image ≡ Stored version)

abbrev pub line_of : Job → RevnetInputs → MapVersion → List ℕ
line_of job inputs version =
    build_line job.store version.order (length version.rows) (generation_of (winning inputs.file) + 1)

-- What is told, for each status: the line of the version that was made, or a front of it, or why none is stored.
abbrev pub Reverses : Job → RevnetInputs → Option MapVersion → Status → Option (List ℕ) → Option (List ℕ) → Type 0
Reverses job inputs made Done before after = OfMade made (λ version. Appends before after (line_of job inputs version))
Reverses job inputs made WriteFault before after =
    OfMade made (λ version. AppendsFront (line_of job inputs version) before after)
Reverses job inputs made status before after = StopsRevnet job inputs status × (after ≡ before)

-- ---- the disks

-- P holds of what two files hold, where that is told
abbrev pub AtFiles : Option History → Option History → ℕ → (RevnetInputs → Type 0) → Type 0
AtFiles file netgroup now P = IfSome file (λ h. IfSome netgroup (λ n. P (revnet_inputs h n now)))

-- a crash might have left these bytes before, or they stand for what stood, or for the version that was made
abbrev pub IsBeforeOrMade : Option History → Option MapVersion → List ℕ → Type 0
IsBeforeOrMade old made image = MayLeave old image ⊎ (IsAsBefore old image ⊎ StandsForVersion made image)

-- The disk of a map of this name failed, by the counts of the disk of the map that is made and of that of the
-- netgroups.
abbrev pub OwnDiskFails : (store map : Name) → (faults faults' others others' : ℕ) → Type 0
OwnDiskFails store map faults faults' others others' =
    ((map ≡ store) × HasRisen faults faults') ⊎ ((map ≡ netgroup_of store) × HasRisen others others')

-- ---- the command

-- what the disk of the map tells, and that of the netgroups
abbrev pub store_history : {S K D C A I T : Type 0} → Seeing S K D C A I T → Office S K D C A I T → Option History
store_history seen office = told_at seen.disk.history 0 office.disks.items

abbrev pub netgroup_history : {S K D C A I T : Type 0} → Seeing S K D C A I T → Office S K D C A I T → Option History
netgroup_history seen office = told_at seen.disk.history 1 office.disks.items

-- P holds of what an office held, where it is told
abbrev pub AtRevnetInputs : {S K D C A I T : Type 0} → Seeing S K D C A I T → Office S K D C A I T
    → (RevnetInputs → Type 0) → Type 0
AtRevnetInputs seen office P =
    IfSome (moment seen office) (λ now. AtFiles (store_history seen office) (netgroup_history seen office) now P)

-- Nothing stands in the way: a version of the netgroups stands; the last version of the map, if there is one, has the
-- own name as its master, and neither the last order nor the last generation; and no row of the reverse passes a limit.
pub record CanReverse (job : Job) (inputs : RevnetInputs) : Type 0 where
  pub held : FileVersions
  pub is_held : AreFileVersions inputs held
  pub order : ℕ
  pub has_order : HasNextOrder job.name inputs.now held.last order
  pub fits : (row rule : ℕ) → ¬ RefusesRow held.netgroup.rows job.field (empty_draft order job.name) row rule
  pub generation : generation_of (winning inputs.file) < generation_max

-- What `revnet` does: the reverse of the netgroups that stand is stored behind the version that stands, or the first
-- reason why there is none is told. At each moment a crash leaves what it might have left before, or a file that stands
-- for what stood or for the version that was made. To the netgroups' disk nothing is written. Where nothing is in the
-- way and nothing fails, the version is stored and told. The files and the moment fix that version.
pub record RevnetDoes {S K D C A I T : Type 0} (seen : Seeing S K D C A I T) (name : List ℕ) (store : Name)
    (status : Status) (old new : Office S K D C A I T) : Type 0 where
  pub made : Option MapVersion
  pub planned : IfSome made (λ version. AtRevnetInputs seen old
      (λ inputs. ReverseIsPlanned (job_of name store) inputs version))
  pub tells : AtRevnetInputs seen old
      (λ inputs. Reverses (job_of name store) inputs made status (output seen old) (output seen new))
  pub stored : IsTrue (tells_stored status) → (image : List ℕ) → MayLeave (store_history seen new) image
      → StandsForVersion made image
  pub any_moment : LeavesOnly (store_history seen old) (store_history seen new)
      (IsBeforeOrMade (store_history seen old) made)
  pub few : LeavesFew (store_history seen old) (store_history seen new)
  pub early : may_have_written status ≡ false
      → LeavesOnly (store_history seen old) (store_history seen new) (MayLeave (store_history seen old))
  pub only_read : IsOnlyRead (netgroup_history seen old) (netgroup_history seen new)
  pub complete : AtRevnetInputs seen old (λ inputs. CanReverse (job_of name store) inputs
      → ¬ DiskFails seen old new → ¬ WriteFails seen old new → (status ≡ Done) ⊎ (status ≡ NoMemory))
  pub causes : HasCauses seen status old new
  pub own_disk : (map : MapName) → status ≡ DiskFault map → OwnDiskFails store (name_view map)
      (faults_at seen.disk.faults 0 old.disks.items) (faults_at seen.disk.faults 0 new.disks.items)
      (faults_at seen.disk.faults 1 old.disks.items) (faults_at seen.disk.faults 1 new.disks.items)
  pub names : names_of new.disks.items ≡ names_of old.disks.items
  pub told : moment seen new ≡ moment seen old
  pub stays : new ≡ record old {
    wire = record old.wire { sink = new.wire.sink };
    disks = new.disks;
    clock = new.clock;
  }
