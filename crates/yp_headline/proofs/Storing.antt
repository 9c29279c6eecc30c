-- A command over one file that stores what it fetched of a server.
use Rattle.std.proofs.Common.{◌≡◌, ℕ, Bool, true, false, List, [], ◌∷◌, ◌++◌, Option, Some, None, Result, Ok, Err, refl, sym, ap, ◌∙◌, subst, inl, inr, ⊎_elim}
use Rattle.std.specs.Prelude.{IfSome}
use Rattle.yp_io.specs.Disk.{History, LeftBetween, MayLeave, LeavesOnly}
use Rattle.yp_version.specs.Versions.{MapVersion}
use Rattle.yp_map_file.specs.declared.fault.SlotFault.{SlotFault}
use Rattle.yp_map_file.specs.declared.fault.SlotFault.TheVariants as slot
use Rattle.yp_map_file.specs.Stands.{Stored, stands}
use Rattle.yp_board.specs.Catalogues.{Name}
use Rattle.yp_board.specs.Logs.{Log}
use Rattle.yp_publisher.specs.Standing.{stands_for}
use Rattle.yp_publisher.specs.declared.install.Installed.{Installed}
use Rattle.yp_transfer.specs.declared.fault.XfrFault.{XfrFault}
use Rattle.yp_transfer.specs.declared.fault.XfrFault.TheVariants as fault
use Rattle.yp_transfer.specs.Fetching.{FetchOutcome}
use Rattle.yp_command.specs.declared.office.status.Status.{Status}
use Rattle.yp_command.specs.declared.office.status.Status.TheVariants.{Done, WriteFault, NoMemory, Damaged, DiskFault}
use Rattle.yp_command.specs.office.Files.{Fails}
use Rattle.yp_command_maps.specs.Build.{TellsLine, tells_stored}
use Rattle.yp_command_maps.specs.Xfr.{Job, FileVersion, marked, IsFetchedIn, IsBeforeOrFetched, StoresOutcome, StoresOn, TellsXfr}
use Rattle.yp_headline.specs.World.{World, Dialed}
use Rattle.yp_headline.specs.Fetching.{Gives}
use Rattle.yp_headline.specs.Publishing.{IsAmong, IsMarked, IsNew, IsFetched}
use Rattle.yp_headline.specs.Sources.{Source, Succeeded}
use Rattle.yp_headline.specs.inside.Files.{FileRun, textless_run, file_world, file_log, file_log_with}
use Rattle.yp_headline.specs.inside.Laws.{FileHolds}
use Rattle.yp_headline.proofs.Runs.{none_among}
use Rattle.yp_headline.proofs.Single.{IsLeft, left_crashes, stored_crashes, shown_with}
use Rattle.yp_headline.proofs.Sourced.{Throughout}

-- ---- statuses

pub told_line : (text : List ℕ) (status : Status) (before after : Option (List ℕ)) → TellsLine text status before after
    → tells_stored status ≡ true
told_line text Done before after tells = refl
told_line text WriteFault before after tells = refl
told_line text _ before after tells = absurd tells

pub told_fault : (store : Name) (why : XfrFault) (status : Status) (before after : Option (List ℕ))
    → TellsXfr store (Err why) status before after → tells_stored status ≡ false
told_fault store fault.NoMemory status before after tells = ap tells_stored tells.0
told_fault store why status before after tells = ap tells_stored tells.0

pub told_fails : (store : Name) (why : SlotFault) (status : Status) → Fails store why status → tells_stored status ≡ false
told_fails store (slot.Damaged at rule) (Damaged map a r) fails = refl
told_fails store slot.DiskFault (DiskFault map) fails = refl
told_fails store slot.NoMemory NoMemory fails = refl
told_fails store _ _ fails = absurd fails

pub stands_same : (a b : Option MapVersion) → stands_for a ≡ stands_for b → a ≡ b
stands_same None None e = refl
stands_same None (Some v) e = absurd cc
stands_same (Some v) None e = absurd cc
stands_same (Some v) (Some w) e = cc

-- ---- what was made

abbrev made_of : Job → FileVersion → FetchOutcome → Option MapVersion
made_of job held (Ok version) = Some (marked job held version)
made_of job held (Err why) = None

fetched_in : (job : Job) (held : FileVersion) (outcome : FetchOutcome) (image : List ℕ) → IsFetchedIn job held outcome image
    → (version : MapVersion) × (made_of job held outcome ≡ Some version) × (stands image ≡ Stored version)
fetched_in job held (Ok version) image is = (marked job held version, refl, is)
fetched_in job held (Err why) image is = absurd is

-- the outcome of a fetch whose version was stored
was_fetched : (job : Job) (held : FileVersion) (Failed : Type 0) (outcome : FetchOutcome) (installed : Installed)
    → StoresOutcome job held Failed outcome (Ok installed) → (version : MapVersion) × (outcome ≡ Ok version)
was_fetched job held Failed (Ok version) installed comes = (version, refl)
was_fetched job held Failed (Err why) installed comes = absurd cc

nothing_behind : (front : List ℕ) (number : ℕ) (back : List ℕ) → [] ≡ front ++ number ∷ back → ⊥
nothing_behind [] number back is = cc
nothing_behind (one ∷ front) number back is = cc

pub only_done : (number : ℕ) → IsAmong (0 ∷ []) number → number ≡ 0
only_done number ([], back, is) = cc
only_done number (one ∷ front, back, is) =
    let rest : [] ≡ front ++ number ∷ back = cc in absurd (nothing_behind front number back rest)

-- a version that is another, but for its mark
pub mark_of : (version other : MapVersion) (secure : Bool) → other ≡ record version { secure = secure } → IsMarked version other
mark_of version other secure is =
    is ∙ ap (λ (b : Bool). record version { secure = b }) (sym (ap (λ (v : MapVersion). v.secure) is))

module _ (job : Job) (h h' : History) (old new : Option History) (was : old ≡ Some h) (is : new ≡ Some h')
    (held : Option MapVersion) (stood : stands h.state.reads ≡ stands_for held) (dialed : List Dialed) where
  abbrev run : FileRun
  run = textless_run job.name job.store dialed h h'

  abbrev pub world : Bool → World
  world told = file_world run told

  -- a server gave the version that was fetched
  pub record Gave (version : MapVersion) : Type 0 where
    pub server : Dialed
    pub among : IsAmong dialed server
    pub gives : Gives server version
    pub of_source : (source : Source job.store gives) → Throughout job.store gives source version

  module _ (file : FileVersion) (file_is : file.version ≡ held) (outcome : FetchOutcome)
      (gave : (version : MapVersion) → outcome ≡ Ok version → Gave version) where
    abbrev fetched_of : (told : Bool) (version : MapVersion) → outcome ≡ Ok version → IsFetched (world told) (marked job file version)
    fetched_of told version same =
        let one = gave version same in
        record {
          server = one.server;
          among = one.among;
          fetched = version;
          gives = one.gives;
          marked = mark_of version (marked job file version) (marked job file version).secure refl;
        }

    new_by : (told : Bool) (came_of : FetchOutcome) → outcome ≡ came_of → (version : MapVersion)
        → made_of job file came_of ≡ Some version → IsNew (world told) 0 (file_log held) version
    new_by told (Ok fetched) same version made =
        let whole : marked job file fetched ≡ version = cc in
        subst (λ (v : MapVersion). IsNew (world told) 0 (file_log held) v) whole (inr (fetched_of told fetched same))
    new_by told (Err why) same version made = absurd cc

    each : LeavesOnly old new (IsBeforeOrFetched job file outcome old) → (image : List ℕ) → LeftBetween (Some h) (Some h') image
        → IsLeft run held (made_of job file outcome) image
    each leaves image left =
        let here = subst (λ (o : Option History). LeavesOnly (Some h) o (IsBeforeOrFetched job file outcome (Some h))) is
        (subst (λ (o : Option History). LeavesOnly o new (IsBeforeOrFetched job file outcome o)) was leaves) in
        ⊎_elim (λ before. inl before)
        (λ later. inr (⊎_elim (λ same. inl (same ∙ ap stands_for file_is)) (λ made. inr (fetched_in job file outcome image made)) later))
        (here.each image left)

    left_holds : LeavesOnly old new (IsBeforeOrFetched job file outcome old) → FileHolds (world false) held
    left_holds leaves = record {
      log = file_log held;
      crashes = left_crashes run held (made_of job file outcome) stood
          (new_by false outcome refl) (each leaves);
      transfers = record { done = λ number among. absurd (none_among number among); called_back = λ some. absurd (some refl) };
    }

  module _ (file : FileVersion) (file_is : file.version ≡ held) (version : MapVersion)
      (gave : (v : MapVersion) → (let o : FetchOutcome = Ok version in o) ≡ Ok v → Gave v)
      (leaves : LeavesOnly old new (IsBeforeOrFetched job file (Ok version) old))
      (all : (image : List ℕ) → MayLeave new image → stands image ≡ Stored (marked job file version)) where
    abbrev log : Log
    log = file_log_with held (marked job file version)

    throughout : (name : Name) → job.store ≡ name → (source : Source name (gave version refl).gives)
        → Throughout name (gave version refl).gives source (marked job file version)
    throughout name same = subst (λ (n : Name). (source : Source n (gave version refl).gives)
        → Throughout n (gave version refl).gives source (marked job file version)) same (λ source.
        let shown = (gave version refl).of_source source in (
          shown.0,
          ap (λ (v : MapVersion). record v { secure = (marked job file version).secure }) shown.1,
          shown.2,
        ))

    same_some : (a b : Name) → Some a ≡ Some b → a ≡ b
    same_some a b e = cc

    succeeded : Succeeded (world true) log 0
    succeeded = record {
      stored = marked job file version;
      fetched = fetched_of file file_is (Ok version) gave true version refl;
      shows = shown_with held (marked job file version);
      of_source = λ name named. throughout name (same_some job.store name named);
    }

    stored_holds : FileHolds (world true) held
    stored_holds = record {
      log = log;
      crashes = stored_crashes run held (Some (marked job file version))
          (marked job file version) (λ image may. all image (subst (λ (o : Option History). MayLeave o image) (sym is) may)) refl stood
          (new_by file file_is (Ok version) gave true (Ok version) refl) (each file file_is (Ok version) gave leaves);
      transfers = record {
        done = λ number among. subst (λ (n : ℕ). Succeeded (world true) log n) (sym (only_done number among)) succeeded;
        called_back = λ some. absurd (some refl);
      };
    }

  -- what came of a fetch is stored, or isn't
  pub stores_hold : (status : Status) (before after : Option (List ℕ)) (faults faults' : ℕ) (file : FileVersion) (outcome : FetchOutcome)
      (result : Result Installed XfrFault) → ((version : MapVersion) → outcome ≡ Ok version → Gave version)
      → StoresOn job file outcome result (record { history = old; faults = faults })
      (record { history = new; faults = faults' }) → TellsXfr job.store result status before after
      → FileHolds (world (tells_stored status)) held
  stores_hold status before after faults faults' file outcome result gave stores tells =
      let here : IfSome (Some h) (λ h. stands h.state.reads ≡ stands_for file.version) =
      subst (λ (o : Option History). IfSome o (λ h. stands h.state.reads ≡ stands_for file.version)) was stores.is_held.version in
      by outcome result (stands_same file.version held (sym here ∙ stood)) gave stores tells
    where
      by : (outcome : FetchOutcome) (result : Result Installed XfrFault) → file.version ≡ held
          → ((version : MapVersion) → outcome ≡ Ok version → Gave version)
          → StoresOn job file outcome result (record { history = old; faults = faults })
          (record { history = new; faults = faults' }) → TellsXfr job.store result status before after
          → FileHolds (world (tells_stored status)) held
      by (Ok version) (Ok installed) file_is gave stores tells =
          subst (λ (b : Bool). FileHolds (world b) held) (sym (told_line _ status before after tells))
          (stored_holds file file_is version gave stores.any_moment stores.stored)
      by (Err why) (Ok installed) file_is gave stores tells =
          absurd (let e : (let r : Result Installed XfrFault = Ok installed in r) ≡ Err why = stores.comes in cc)
      by outcome (Err why) file_is gave stores tells =
          subst (λ (b : Bool). FileHolds (world b) held) (sym (told_fault job.store why status before after tells))
          (left_holds file file_is outcome gave stores.any_moment)

  -- nothing was fetched
  pub nothing_holds : LeavesOnly old new (MayLeave old) → FileHolds (world false) held
  nothing_holds leaves = record {
    log = file_log held;
    crashes = left_crashes run held None stood (λ version made. absurd cc)
        (λ image left. inl ((subst (λ (o : Option History). LeavesOnly (Some h) o (MayLeave (Some h))) is
        (subst (λ (o : Option History). LeavesOnly o new (MayLeave o)) was leaves)).each image left));
    transfers = record { done = λ number among. absurd (none_among number among); called_back = λ some. absurd (some refl) };
  }
