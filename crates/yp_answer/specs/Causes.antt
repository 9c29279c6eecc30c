-- Why a map that was to be made has its status, by the logs before and after.
use Rattle.std.specs.Prelude.{◌≡◌, ◌≢◌, ℕ, Bool, List, [], ◌∷◌, ◌++◌, Option, Some, None, is_some, Ok, Err, IfSome, ⊤}
use Rattle.yp_messages.specs.declared.transfer.XfrStat.{XfrStat}
use Rattle.yp_messages.specs.declared.transfer.XfrStat.TheVariants.{Succ, Age, Nomap, Rsrc, Dbm, File, Refused}
use Rattle.yp_version.specs.Versions.{MapVersion, unmarked}
use Rattle.yp_version.specs.Drafts.{empty_draft, first_refused}
use Rattle.yp_board.specs.Catalogues.{Catalogue}
use Rattle.yp_board.specs.Logs.{Log, shown}
use Rattle.yp_board.specs.Views.{IsFront}
use Rattle.yp_board.specs.Between.{Between}
use Rattle.yp_texts.specs.declared.reading.Reading.{Reading}
use Rattle.yp_texts.specs.declared.fault.BuildFault.{BuildFault}
use Rattle.yp_texts.specs.declared.fault.BuildFault.TheVariants.{OrderSpent}
use Rattle.yp_texts.specs.Builds.{order_max, order_after}
use Rattle.yp_texts.specs.Readings.{source_of}
use Rattle.yp_texts.specs.After.{Material, HasFault, basis_of, other_master, last_order, was_secure, built_after}
use Rattle.yp_texts.specs.After.{HasLaterOrder}
use Rattle.yp_netgroup.specs.declared.reverse.field.Field.{Field}
use Rattle.yp_netgroup.specs.reverse.Reverse.{IsReverse}
use Rattle.yp_netgroup.specs.reverse.Refused.{RefusesRow}
use Rattle.yp_answer.specs.declared.make.Making.{Making}
use Rattle.yp_answer.specs.declared.make.Making.TheVariants.{Text, Netgroups}
use Rattle.yp_answer.specs.declared.make.MakeJob.{MakeJob}
use Rattle.yp_answer.specs.Make.{map_name, netgroups_at}

-- what a host tells of its texts and of its clock, where it does
pub record Told : Type 0 where
  pub text : List ℕ → Option (List ℕ)
  pub moment : Option ℕ

-- What is told stays.
pub record TellsSame (old new : Told) : Type 0 where
  pub texts : (name : List ℕ) → new.text name ≡ old.text name
  pub moment : new.moment ≡ old.moment

-- what a version is made of: the text with a name, which is read so, or the netgroups, by a part of their triples,
-- where they are shown
pub data Matter : Type 0 where
  OfText : (reading : Reading) (name : List ℕ) → Matter
  OfNetgroups : (field : Field) (netgroups : Option MapVersion) → Matter

-- what is made of a map: what its version is made of, the own name, and the last version of the map, or none
pub record Task : Type 0 where
  pub matter : Matter
  pub own : List ℕ
  pub last : Option MapVersion

-- the moment is the one that is told
abbrev pub MomentIsTold : Told → ℕ → Type 0
MomentIsTold told moment = IfSome told.moment (λ known. moment ≡ known)

-- what a version is built of is what is told
pub record MaterialIsTold (told : Told) (name : List ℕ) (material : Material) : Type 0 where
  pub text : IfSome (told.text name) (λ text. material.text ≡ text)
  pub moment : MomentIsTold told material.moment

-- ---- a version that is made

-- a version that was built of a text that is told
pub record IsBuiltOf (told : Told) (reading : Reading) (name own : List ℕ) (last : Option MapVersion)
    (version : MapVersion) : Type 0 where
  pub material : Material
  pub of_told : MaterialIsTold told name material
  pub built : built_after (basis_of reading own None last) material ≡ Ok version

-- the reverse of netgroups, with the next order at a moment that is told and the own name as its master, marked as the
-- last version, which has no other master
pub record IsReversedOf (told : Told) (field : Field) (netgroups : MapVersion) (own : List ℕ) (last : Option MapVersion)
    (version : MapVersion) : Type 0 where
  pub moment : ℕ
  pub of_told : MomentIsTold told moment
  pub of_own : other_master own last ≡ None
  pub next : order_after (last_order last) moment ≡ Some version.order
  pub is : version ≡ record (unmarked version.order own version.rows) { secure = was_secure last }
  pub reverse : IsReverse netgroups.rows field version.rows
  pub fits : first_refused (empty_draft version.order own) version.rows ≡ None

abbrev pub IsMadeOf : Told → Matter → (own : List ℕ) → (last : Option MapVersion) → MapVersion → Type 0
IsMadeOf told (OfText reading name) own last version = IsBuiltOf told reading name own last version
IsMadeOf told (OfNetgroups field (Some netgroups)) own last version =
    IsReversedOf told field netgroups own last version
IsMadeOf told (OfNetgroups field None) own last version = ⊥

-- a version that was made anew, of what is told and of what is shown
abbrev pub IsAnew : Told → Task → MapVersion → Type 0
IsAnew told task version = IsMadeOf told task.matter task.own task.last version

-- ---- why none is made

-- whether the version that is shown has another master than the own name
abbrev pub is_of_another : Task → Bool
is_of_another task = is_some (other_master task.own task.last)

-- a row of the text passes a limit, while the order isn't spent; the text that is told fixes the fault
pub record HasBadLine (told : Told) (reading : Reading) (name own : List ℕ) (last : Option MapVersion) : Type 0 where
  pub material : Material
  pub of_told : MaterialIsTold told name material
  pub fault : BuildFault
  pub of_row : fault ≢ OrderSpent
  pub cause : built_after (basis_of reading own None last) material ≡ Err (HasFault fault)

-- a row of the reverse of netgroups passes a limit, while the order isn't spent; the netgroups fix which it is
pub record HasBadReverse (told : Told) (field : Field) (netgroups : MapVersion) (own : List ℕ)
    (last : Option MapVersion) : Type 0 where
  pub moment : ℕ
  pub of_told : MomentIsTold told moment
  pub order : ℕ
  pub next : order_after (last_order last) moment ≡ Some order
  pub number : ℕ
  pub rule : ℕ
  pub refuses : RefusesRow netgroups.rows field (empty_draft order own) number rule

abbrev pub HasBadRowOf : Told → Matter → (own : List ℕ) → (last : Option MapVersion) → Type 0
HasBadRowOf told (OfText reading name) own last = HasBadLine told reading name own last
HasBadRowOf told (OfNetgroups field (Some netgroups)) own last = HasBadReverse told field netgroups own last
HasBadRowOf told (OfNetgroups field None) own last = ⊥

abbrev pub HasBadRowAt : Told → Task → Type 0
HasBadRowAt told task = HasBadRowOf told task.matter task.own task.last

-- ---- what is made of a map

-- what the map with a name is made of, where this is shown of the netgroups
abbrev pub matter_of : Making → (map : List ℕ) → (netgroups : Option MapVersion) → Matter
matter_of (Text reading) map netgroups = OfText reading (source_of reading map)
matter_of (Netgroups field) map netgroups = OfNetgroups field netgroups

-- what is made of a map of what is shown of the netgroups, behind its last version, or behind none
abbrev pub task_with : Catalogue → MakeJob → (netgroups last : Option MapVersion) → Task
task_with catalogue job netgroups last = record {
  matter = matter_of job.making (map_name job.map catalogue) netgroups;
  own = catalogue.own;
  last = last;
}

-- the same, where a log shows the netgroups
abbrev pub task_of : Catalogue → MakeJob → Log → (last : Option MapVersion) → Task
task_of catalogue job at last = task_with catalogue job (netgroups_at catalogue job at) last

-- what is made of a map behind a log
abbrev pub task_at : Catalogue → MakeJob → Log → Task
task_at catalogue job log = task_of catalogue job log (shown job.map log)

-- A version was made anew, of the netgroups that were shown at a moment of the making where it is made of these, behind
-- the versions of its map before it, and was shown. Its order is over that of the version that was shown at a moment of
-- the making.
pub record IsShownAnew (told : Told) (catalogue : Catalogue) (job : MakeJob) (old new : Log) : Type 0 where
  pub version : MapVersion
  pub before : Log
  pub entry : IsFront (before ++ (job.map, version) ∷ []) new
  pub anew : Between old new (λ at. IsAnew told (task_of catalogue job at (shown job.map before)) version)
  pub over : Between old new (λ log. HasLaterOrder (shown job.map log) version)

-- a row of the text passes a limit, whatever the map and the moment are; these don't change the fault
pub record HasBadRow (catalogue : Catalogue) (job : MakeJob) (reading : Reading) (text : List ℕ) : Type 0 where
  pub log : Log
  pub moment : ℕ
  pub fault : BuildFault
  pub of_row : fault ≢ OrderSpent
  pub refused : built_after (basis_of reading catalogue.own None (shown job.map log))
      (record { text = text; moment = moment }) ≡ Err (HasFault fault)

-- A row passes a limit: of the text, or of the reverse of the netgroups that were shown at a moment of the making.
abbrev pub RowIsBad : Told → Catalogue → MakeJob → Making → Log → Log → Type 0
RowIsBad told catalogue job (Text reading) old new =
    IfSome (told.text (source_of reading (map_name job.map catalogue))) (HasBadRow catalogue job reading)
RowIsBad told catalogue job (Netgroups field) old new =
    Between old new (λ log. HasBadRowOf told (OfNetgroups field (netgroups_at catalogue job log)) catalogue.own
    (shown job.map log))

-- A map that is made of netgroups, where none are served, or nothing was shown of them at a moment of the making.
abbrev pub NetgroupsAreMissing : Catalogue → MakeJob → Making → Log → Log → Type 0
NetgroupsAreMissing catalogue job (Text reading) old new = ⊥
NetgroupsAreMissing catalogue job (Netgroups field) old new =
    Between old new (λ log. netgroups_at catalogue job log ≡ None)

-- Why a map that was made has its status: it was shown anew; some version of it has another master, or the last order;
-- there are no netgroups that it could be made of; it has a row past a limit. FILE is counted, and memory may run out
-- at any time.
abbrev pub IsCaused : Told → Catalogue → MakeJob → XfrStat → Log → Log → Type 0
IsCaused told catalogue job Succ old new = IsShownAnew told catalogue job old new
IsCaused told catalogue job Refused old new =
    (log : Log) × IsFront log new
    × (master : List ℕ) × (other_master catalogue.own (shown job.map log) ≡ Some master)
IsCaused told catalogue job Nomap old new = NetgroupsAreMissing catalogue job job.making old new
IsCaused told catalogue job Age old new =
    (log : Log) × IsFront log new × (last_order (shown job.map log) ≡ Some order_max)
IsCaused told catalogue job Dbm old new = RowIsBad told catalogue job job.making old new
IsCaused told catalogue job File old new = ⊤
IsCaused told catalogue job Rsrc old new = ⊤
IsCaused told catalogue job _ old new = ⊥
