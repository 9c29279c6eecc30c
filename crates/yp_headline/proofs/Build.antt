-- What `build` and `load` do is what the headline says.
use Rattle.std.proofs.Common.{◌≡◌, ℕ, Bool, true, false, cond, List, Option, Some, None, Result, Ok, Err, refl, sym, ap, ◌∙◌, subst, inl, inr, ⊎_elim}
use Rattle.std.specs.Prelude.{IfSome, IsTrue, ◌==◌}
use Rattle.yp_io.specs.Disk.{History, IsImage, LeftBetween, MayLeave, LeavesOnly}
use Rattle.yp_version.specs.Versions.{MapVersion}
use Rattle.yp_map_file.specs.Commits.{generation_of, winning, generation_max}
use Rattle.yp_map_file.specs.Stands.{Stands, Stored, stands}
use Rattle.yp_publisher.specs.Standing.{stands_for}
use Rattle.yp_texts.specs.Builds.{order_after}
use Rattle.yp_texts.specs.After.{Hindrance, material_of, other_master, last_order}
use Rattle.yp_command.specs.declared.office.status.Status.{Status}
use Rattle.yp_command.specs.declared.office.status.Status.TheVariants.{Done, WriteFault}
use Rattle.yp_command.specs.office.Seeing.{Seeing, output, history, moment}
use Rattle.yp_command_maps.specs.Build.{Job, BuildInputs, build_inputs, Unplanned, IsSpent, IsLong, offered, with_generation, over, planned, IsBeforeOrPlanned, PlanIsStored, AtBuildInputs, Builds, tells_stored}
use Rattle.yp_headline.specs.World.{World}
use Rattle.yp_headline.specs.Publishing.{IsNew}
use Rattle.yp_headline.specs.inside.Files.{FileRun, file_world, file_log, file_log_with}
use Rattle.yp_headline.specs.inside.Laws.{build_run, FileCrashes, JobHolds}
use Rattle.yp_headline.proofs.Built.{FromText, from_text}
use Rattle.yp_headline.proofs.Single.{IsLeft, left_crashes, stored_crashes, shown_first}

-- ---- what was planned

spent_or_made : (spent : Bool) (version given : MapVersion)
    → (let is : Result MapVersion Unplanned = cond spent (Err IsSpent) (Ok version) in is) ≡ Ok given → version ≡ given
spent_or_made true version given is = absurd cc
spent_or_made false version given is = cc

with_one : (generation : ℕ) (made : Result MapVersion Hindrance) (version : MapVersion)
    → with_generation generation made ≡ Ok version → made ≡ Ok version
with_one generation (Ok made) version is =
    ap (λ (v : MapVersion). Ok v) (spent_or_made (generation == generation_max) made version is)
with_one generation (Err why) version is = absurd cc

over_held : (job : Job) (text : List ℕ) (now generation : ℕ) (held : Option MapVersion) (version : MapVersion)
    → over job text now generation (stands_for held) ≡ Ok version → offered job text now held ≡ Ok version
over_held job text now generation None version is = with_one generation (offered job text now None) version is
over_held job text now generation (Some last) version is = with_one generation (offered job text now (Some last)) version is

not_long : (long : Bool) (plan : Result MapVersion Unplanned) (version : MapVersion)
    → cond long (Err IsLong) plan ≡ Ok version → plan ≡ Ok version
not_long true plan version is = absurd cc
not_long false plan version is = is

same_ok : (a b : MapVersion) → (let is : Result MapVersion Unplanned = Ok a in is) ≡ Ok b → a ≡ b
same_ok a b is = cc

-- a version that was told as stored was planned
told_version : (job : Job) (inputs : BuildInputs) (status : Status) (before after : Option (List ℕ)) → tells_stored status ≡ true
    → Builds job inputs status before after → (version : MapVersion) × (planned job inputs ≡ Ok version)
told_version job inputs Done before after told builds = (builds.0, builds.1)
told_version job inputs WriteFault before after told builds = (builds.0, builds.1)
told_version job inputs _ before after told builds = absurd cc

module _ (job : Job) (text : List ℕ) (now : ℕ) (h h' : History) (held : Option MapVersion)
    (stood_is : stands h.state.reads ≡ stands_for held) where
  abbrev inputs : BuildInputs
  inputs = build_inputs text now h

  abbrev run : FileRun
  run = build_run job text h h'

  abbrev world : Bool → World
  world told = file_world run told

  abbrev made_of : Result MapVersion Unplanned → Option MapVersion
  made_of (Ok version) = Some version
  made_of (Err why) = None

  abbrev made : Option MapVersion
  made = made_of (planned job inputs)

  planned_from : (version : MapVersion) → planned job inputs ≡ Ok version → FromText job.reading job.name held text now version
  planned_from version is =
      let generation = generation_of (winning h.state.reads) in
      let plan = not_long _ (over job text now generation (stands h.state.reads)) version is in
      let on_held = subst (λ (s : Stands). over job text now generation s ≡ Ok version) stood_is plan in
      from_text job.reading job.name job.flag held (material_of text now) version
      (over_held job text now generation held version on_held)

  made_is : (plan : Result MapVersion Unplanned) (version : MapVersion) → made_of plan ≡ Some version → plan ≡ Ok version
  made_is (Ok made) version is = cc
  made_is (Err why) version is = absurd cc

  is_new : (told : Bool) (version : MapVersion) → made ≡ Some version → IsNew (world told) 0 (file_log held) version
  is_new told version is =
      let from = planned_from version (made_is (planned job inputs) version is) in
      let at = shown_first held in
      inl (record {
        moment = now;
        master = from.master;
        of_own = subst (λ (o : Option MapVersion). other_master job.name o ≡ None) (sym at) from.of_own;
        order = subst (λ (o : Option MapVersion). order_after (last_order o) now ≡ Some version.order) (sym at) from.order;
        rows = λ none. from.rows_are;
      })

  plan_made : (plan : Result MapVersion Unplanned) (version : MapVersion) → plan ≡ Ok version → made_of plan ≡ Some version
  plan_made plan version is = ap made_of is

  module _ (old new : Option History) (was : old ≡ Some h) (is : new ≡ Some h')
      (leaves : LeavesOnly old new (IsBeforeOrPlanned job inputs old)) where
    each : (image : List ℕ) → LeftBetween (Some h) (Some h') image
        → IsLeft run held made image
    each image left =
        let here = subst (λ (o : Option History). LeavesOnly (Some h) o (IsBeforeOrPlanned job inputs (Some h))) is
        (subst (λ (o : Option History). LeavesOnly o new (IsBeforeOrPlanned job inputs o)) was leaves) in
        ⊎_elim (λ before. inl before)
        (λ later. inr (⊎_elim (λ same. inl (same ∙ stood_is))
        (λ plan. inr (plan.0, plan_made (planned job inputs) plan.0 plan.1, plan.2)) later)) (here.each image left)

    stored_by : (version : MapVersion) → planned job inputs ≡ Ok version → PlanIsStored job inputs new → (image : List ℕ)
        → IsImage h'.state image → stands image ≡ Stored version
    stored_by version plan stored image may =
        let one = stored image (subst (λ (o : Option History). MayLeave o image) (sym is) may) in
        let same : one.0 ≡ version = same_ok one.0 version (sym one.1 ∙ plan) in
        one.2 ∙ ap (λ (v : MapVersion). Stored v) same

    by_told : (status : Status) (before after : Option (List ℕ)) (told : Bool) → tells_stored status ≡ told
        → Builds job inputs status before after → (IsTrue (tells_stored status) → PlanIsStored job inputs new)
        → FileCrashes (world told) held
    by_told status before after false told builds stored = record {
      log = file_log held;
      crashes = left_crashes run held made stood_is (is_new false) each;
    }
    by_told status before after true told builds stored =
        let plan = told_version job inputs status before after told builds in
        record {
          log = file_log_with held plan.0;
          crashes = stored_crashes run held made plan.0
              (stored_by plan.0 plan.1 (stored told)) (plan_made (planned job inputs) plan.0 plan.1) stood_is (is_new true) each;
        }

pub job_holds : {S K D C A I T : Type 0} (seen : Seeing S K D C A I T) → JobHolds seen
job_holds seen job status old new does text h h' now input_is was is moment_is held stood_is =
    let P : (BuildInputs → Type 0) → Option (List ℕ) → Option History → Option ℕ → Type 0 = λ Q t d m. IfSome t (λ t. IfSome d (λ d. IfSome m
    (λ m. Q (build_inputs t m d)))) in
    let at : (Q : BuildInputs → Type 0) → AtBuildInputs seen old Q → Q (build_inputs text now h) = λ Q all.
    subst (λ m. P Q (Some text) (Some h) m) moment_is (subst (λ d. P Q (Some text) d (moment seen old)) was
    (subst (λ t. P Q t (history seen old) (moment seen old)) input_is all)) in
    by_told job text now h h' held stood_is (history seen old) (history seen new) was is
    (at (λ inputs. LeavesOnly (history seen old) (history seen new) (IsBeforeOrPlanned job inputs (history seen old))) does.any_moment)
    status (output seen old) (output seen new) (tells_stored status) refl
    (at (λ inputs. Builds job inputs status (output seen old) (output seen new)) does.tells)
    (at (λ inputs. IsTrue (tells_stored status) → PlanIsStored job inputs (history seen new)) does.stored)
