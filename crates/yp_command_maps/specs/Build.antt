-- What `build` stores and tells: the version that a text makes, behind the one that stands.
use Rattle.std.specs.Prelude.{◌≡◌, ◌⊎◌, ℕ, ◌+◌, ◌==◌, ◌≤◌, Bool, true, false, List, ◌++◌, length, Option, Some}
use Rattle.std.specs.Prelude.{None}
use Rattle.std.specs.Prelude.{Result, Ok, Err, nat_lt, if◌then◌else◌, codes, decimal, IfSome, IsTrue}
use Rattle.std.specs.Io.KnownBytes.{Appends}
use Rattle.yp_io.specs.Streams.{AppendsFront}
use Rattle.yp_io.specs.Texts.{text_max}
use Rattle.yp_io.specs.Disk.{History, LeavesOnly, MayLeave}
use Rattle.yp_version.specs.Versions.{MapVersion}
use Rattle.yp_map_file.specs.Commits.{generation_of, winning, generation_max}
use Rattle.yp_map_file.specs.Stands.{Stands, Nothing, Stored, file_max, stands}
use Rattle.yp_map_file.specs.Stands as stood
use Rattle.yp_board.specs.Catalogues.{Name, name_view}
use Rattle.yp_texts.specs.declared.kind.Kind.{Kind}
use Rattle.yp_texts.specs.declared.reading.Reading.{Reading}
use Rattle.yp_texts.specs.declared.reading.Reading.TheVariants as reading
use Rattle.yp_texts.specs.declared.fault.BuildFault.{BuildFault}
use Rattle.yp_texts.specs.declared.fault.BuildFault.TheVariants as fault
use Rattle.yp_texts.specs.After.{Hindrance, HasOther, HasFault, basis_of, material_of, built_after}
use Rattle.yp_command.specs.Forms.{kind_of}
use Rattle.yp_command.specs.office.Lines.{map_text}
use Rattle.yp_command.specs.declared.office.status.Status.{Status}
use Rattle.yp_command.specs.declared.office.status.Status.TheVariants.{Done, ReadFault, WriteFault, TooLong, NoMemory, Damaged}
use Rattle.yp_command.specs.declared.office.status.Status.TheVariants.{DiskFault, Rows, OrderSpent, Refused, GenerationsSpent}
use Rattle.yp_command.specs.declared.office.office.Office.{Office}
use Rattle.yp_command.specs.office.Rows.{key_rule, value_rule, rows_rule, bytes_rule}
use Rattle.yp_command.specs.office.Disks.{names_of}
use Rattle.yp_command.specs.office.Seeing.{Seeing, input, output, history, moment, ReadFails, WriteFails, DiskFails, HasCauses}

-- ---- what is to be built

-- the own name, the map, how its text is read, and whether the version is secure, where that is said
pub record Job : Type 0 where
  pub name : List ℕ
  pub store : Name
  pub reading : Reading
  pub flag : Option Bool

abbrev pub job_of : List ℕ → Name → Reading → Option Bool → Job
job_of name store reading flag = record { name = name; store = store; reading = reading; flag = flag }

-- what is asked of `build` and of `load`: the own name, the map, and whether the version is secure, where that is said
pub record BuildRequest : Type 0 where
  pub name : List ℕ
  pub store : Name
  pub flag : Option Bool

abbrev pub build_request : List ℕ → Name → Option Bool → BuildRequest
build_request name store flag = record { name = name; store = store; flag = flag }

-- what the outside held: the text, the bytes of the map's file, and the moment
pub record BuildInputs : Type 0 where
  pub text : List ℕ
  pub file : List ℕ
  pub now : ℕ

-- what a build reads, by the history of the disk
abbrev pub build_inputs : List ℕ → ℕ → History → BuildInputs
build_inputs text now h = record { text = text; file = h.state.reads; now = now }

-- ---- the version that is stored, or why none is

-- why nothing is stored: the text is over its limit; the file breaks a rule; none is built behind the version that
-- stands; the file has the last generation
pub data Unplanned : Type 0 where
  IsLong : Unplanned
  IsDamaged : (at rule : ℕ) → Unplanned
  Hinders : Hindrance → Unplanned
  IsSpent : Unplanned

-- the version that a text makes behind the one that stands
abbrev pub offered : Job → List ℕ → ℕ → Option MapVersion → Result MapVersion Hindrance
offered job text now standing =
    built_after (basis_of job.reading job.name job.flag standing) (material_of text now)

-- a version needs a further generation of its file
abbrev pub with_generation : ℕ → Result MapVersion Hindrance → Result MapVersion Unplanned
with_generation generation (Ok version) = if generation == generation_max then Err IsSpent else Ok version
with_generation generation (Err why) = Err (Hinders why)

-- the version that is built behind what the file stands for, or why none is built
abbrev pub over : Job → List ℕ → ℕ → ℕ → Stands → Result MapVersion Unplanned
over job text now generation Nothing = with_generation generation (offered job text now None)
over job text now generation (Stored last) = with_generation generation (offered job text now (Some last))
over job text now generation (stood.Damaged at rule) = Err (IsDamaged at rule)

-- the version that is to be stored, or the first reason why none is
abbrev pub planned : Job → BuildInputs → Result MapVersion Unplanned
planned job inputs =
    if nat_lt text_max (length inputs.text) then Err IsLong
    else over job inputs.text inputs.now (generation_of (winning inputs.file)) (stands inputs.file)

-- ---- what stops a build once the text was read

-- These bytes stand for the planned version.
abbrev pub StandsForPlan : Result MapVersion Unplanned → List ℕ → Type 0
StandsForPlan plan image = (version : MapVersion) × (plan ≡ Ok version) × (stands image ≡ Stored version)

-- ---- what is told

-- the line of what was stored
abbrev pub build_line : Name → (order rows generation : ℕ) → List ℕ
build_line store order rows generation =
    map_text store ++ codes " order " ++ decimal order ++ codes " rows " ++ decimal rows
    ++ codes " generation " ++ decimal generation ++ codes "\n"

abbrev pub line_of : Job → BuildInputs → MapVersion → List ℕ
line_of job inputs version =
    build_line job.store version.order (length version.rows) (generation_of (winning inputs.file) + 1)

-- the status of a text that makes no version
abbrev pub fault_status : BuildFault → Status
fault_status fault.OrderSpent = OrderSpent
fault_status fault.NoMemory = NoMemory
fault_status (fault.KeyLong line) = Rows line key_rule
fault_status (fault.ValueLong line) = Rows line value_rule
fault_status (fault.TooManyRows line) = Rows line rows_rule
fault_status (fault.TooBig line) = Rows line bytes_rule

-- What comes of a build, for each status, and what the output took. Each refusal comes exactly where it is planned.
abbrev pub Builds : Job → BuildInputs → Status → Option (List ℕ) → Option (List ℕ) → Type 0
Builds job inputs Done before after =
    (version : MapVersion) × (planned job inputs ≡ Ok version) × Appends before after (line_of job inputs version)
Builds job inputs WriteFault before after =
    (version : MapVersion) × (planned job inputs ≡ Ok version)
    × AppendsFront (line_of job inputs version) before after
Builds job inputs (TooLong at) before after = (planned job inputs ≡ Err IsLong) × (at ≡ text_max) × (after ≡ before)
Builds job inputs (Damaged map at rule) before after =
    (planned job inputs ≡ Err (IsDamaged at rule)) × (name_view map ≡ job.store) × (after ≡ before)
Builds job inputs (Refused master) before after =
    (planned job inputs ≡ Err (Hinders (HasOther master.items))) × (after ≡ before)
Builds job inputs OrderSpent before after =
    (planned job inputs ≡ Err (Hinders (HasFault fault.OrderSpent))) × (after ≡ before)
Builds job inputs (Rows row rule) before after =
    (why : BuildFault) × (planned job inputs ≡ Err (Hinders (HasFault why))) × (fault_status why ≡ Rows row rule)
    × (after ≡ before)
Builds job inputs (GenerationsSpent map) before after =
    (planned job inputs ≡ Err IsSpent) × (name_view map ≡ job.store) × (after ≡ before)
Builds job inputs (DiskFault map) before after = (name_view map ≡ job.store) × (after ≡ before)
Builds job inputs ReadFault before after = after ≡ before
Builds job inputs NoMemory before after = after ≡ before
Builds job inputs _ before after = ⊥

-- ---- statuses

-- a line was written, or a front of it
abbrev pub TellsLine : List ℕ → Status → Option (List ℕ) → Option (List ℕ) → Type 0
TellsLine text Done before after = Appends before after text
TellsLine text WriteFault before after = AppendsFront text before after
TellsLine text _ before after = ⊥

-- ---- what a crash leaves

-- a crash might have left these bytes before, or they stand for what stood, or for the version that is planned
abbrev pub IsBeforeOrPlanned : Job → BuildInputs → Option History → List ℕ → Type 0
IsBeforeOrPlanned job inputs old image =
    MayLeave old image ⊎ ((stands image ≡ stands inputs.file) ⊎ StandsForPlan (planned job inputs) image)

-- a crash leaves the version that is planned now, and nothing else
abbrev pub PlanIsStored : Job → BuildInputs → Option History → Type 0
PlanIsStored job inputs new = (image : List ℕ) → MayLeave new image → StandsForPlan (planned job inputs) image

-- whether a status tells that the version was stored
abbrev pub tells_stored : Status → Bool
tells_stored Done = true
tells_stored WriteFault = true
tells_stored _ = false

-- whether a status may come once something was written
abbrev pub may_have_written : Status → Bool
may_have_written Done = true
may_have_written WriteFault = true
may_have_written (DiskFault map) = true
may_have_written NoMemory = true
may_have_written _ = false

-- At each moment a crash leaves what it might have left before, or no more than the most bytes of a file.
abbrev pub LeavesFew : Option History → Option History → Type 0
LeavesFew old new = LeavesOnly old new (λ image. MayLeave old image ⊎ (length image ≤ file_max))

-- ---- the command

-- P holds of what an office held, where it is told
abbrev pub AtBuildInputs : {S K D C A I T : Type 0} → Seeing S K D C A I T → Office S K D C A I T
    → (BuildInputs → Type 0) → Type 0
AtBuildInputs seen office P =
    IfSome (input seen office) (λ text. IfSome (history seen office) (λ h. IfSome (moment seen office)
    (λ now. P (build_inputs text now h))))

-- the statuses with which `build` may end
abbrev pub build_may_end : Status → Bool
build_may_end Done = true
build_may_end ReadFault = true
build_may_end WriteFault = true
build_may_end (TooLong at) = true
build_may_end NoMemory = true
build_may_end (Damaged map at rule) = true
build_may_end (DiskFault map) = true
build_may_end (Rows row rule) = true
build_may_end OrderSpent = true
build_may_end (Refused master) = true
build_may_end (GenerationsSpent map) = true
build_may_end _ = false

-- What is done for a job: the version that is planned of what the office held is stored, or the first reason why there
-- is none is told. At each moment a crash leaves what it might have left before, or a file that stands for what stood
-- or for that version. Where nothing fails a version that is planned is stored and told.
pub record JobDoes {S K D C A I T : Type 0} (seen : Seeing S K D C A I T) (job : Job) (status : Status)
    (old new : Office S K D C A I T) : Type 0 where
  pub tells : AtBuildInputs seen old (λ inputs. Builds job inputs status (output seen old) (output seen new))
  pub stored : AtBuildInputs seen old (λ inputs. IsTrue (tells_stored status)
      → PlanIsStored job inputs (history seen new))
  pub any_moment : AtBuildInputs seen old (λ inputs.
      LeavesOnly (history seen old) (history seen new) (IsBeforeOrPlanned job inputs (history seen old)))
  pub few : LeavesFew (history seen old) (history seen new)
  pub early : may_have_written status ≡ false
      → LeavesOnly (history seen old) (history seen new) (MayLeave (history seen old))
  pub complete : (version : MapVersion) → AtBuildInputs seen old (λ inputs. planned job inputs ≡ Ok version
      → ¬ ReadFails seen old new → ¬ DiskFails seen old new → ¬ WriteFails seen old new
      → (status ≡ Done) ⊎ (status ≡ NoMemory))
  pub causes : HasCauses seen status old new
  pub names : names_of new.disks.items ≡ names_of old.disks.items
  pub told : moment seen new ≡ moment seen old
  pub stays : new ≡ record old { wire = new.wire; disks = new.disks; clock = new.clock }

-- What `build` does, by the kind of its map.
pub record BuildDoes {S K D C A I T : Type 0} (seen : Seeing S K D C A I T) (request : BuildRequest) (status : Status)
    (old new : Office S K D C A I T) : Type 0 where
  pub kind : Kind
  pub of_kind : kind_of request.store ≡ Some kind
  pub does : JobDoes seen (job_of request.name request.store (reading.Text kind) request.flag) status old new

-- What `load` does: the text is read as rows.
abbrev pub LoadDoes : {S K D C A I T : Type 0} → Seeing S K D C A I T → BuildRequest → Status
    → (old new : Office S K D C A I T) → Type 0
LoadDoes seen request = JobDoes seen (job_of request.name request.store reading.Rows request.flag)
