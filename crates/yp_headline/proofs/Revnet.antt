-- What `revnet` does is what the headline says.
use Rattle.std.proofs.Common.{◌≡◌, ℕ, Bool, true, false, List, [], Option, Some, None, refl, sym, ap, ◌∙◌, subst, inl, inr, ⊎_elim}
use Rattle.std.specs.Prelude.{IfSome, IsTrue}
use Rattle.yp_io.specs.Disk.{History, IsImage, LeftBetween, MayLeave, LeavesOnly}
use Rattle.yp_version.specs.Versions.{MapVersion}
use Rattle.yp_map_file.specs.Stands.{Stored, stands}
use Rattle.yp_board.specs.Catalogues.{Name}
use Rattle.yp_board.specs.Logs.{shown}
use Rattle.yp_publisher.specs.Standing.{stands_for}
use Rattle.yp_texts.specs.Builds.{order_after}
use Rattle.yp_texts.specs.After.{other_master, last_order}
use Rattle.yp_command.specs.declared.office.status.Status.{Status}
use Rattle.yp_command.specs.declared.office.status.Status.TheVariants.{Done, WriteFault}
use Rattle.yp_command.specs.office.Seeing.{Seeing, output, moment}
use Rattle.yp_command_maps.specs.Build.{tells_stored}
use Rattle.yp_command_maps.specs.Revnet.{Job, job_of, RevnetInputs, revnet_inputs, ReverseIsPlanned, StandsForVersion, Reverses, AtFiles, AtRevnetInputs, IsBeforeOrMade, store_history, netgroup_history}
use Rattle.yp_headline.specs.World.{World}
use Rattle.yp_headline.specs.Publishing.{IsNew}
use Rattle.yp_headline.specs.inside.Files.{FileRun, textless_run, file_world, file_log, file_log_with}
use Rattle.yp_headline.specs.inside.Laws.{FileCrashes, RevnetHolds}
use Rattle.yp_headline.proofs.Single.{IsLeft, left_crashes, stored_crashes, shown_first}

stands_same : (a b : Option MapVersion) → stands_for a ≡ stands_for b → a ≡ b
stands_same None None e = refl
stands_same None (Some v) e = absurd cc
stands_same (Some v) None e = absurd cc
stands_same (Some v) (Some w) e = cc

-- a version that was told as stored was made
told_made : (job : Job) (inputs : RevnetInputs) (made : Option MapVersion) (status : Status) (before after : Option (List ℕ))
    → tells_stored status ≡ true → Reverses job inputs made status before after → (version : MapVersion) × (made ≡ Some version)
told_made job inputs (Some version) Done before after told tells = (version, refl)
told_made job inputs (Some version) WriteFault before after told tells = (version, refl)
told_made job inputs None Done before after told tells = absurd tells
told_made job inputs None WriteFault before after told tells = absurd tells
told_made job inputs made _ before after told tells = absurd cc

stands_made : (made : Option MapVersion) (image : List ℕ) → StandsForVersion made image
    → (version : MapVersion) × (made ≡ Some version) × (stands image ≡ Stored version)
stands_made None image is = absurd is
stands_made (Some version) image is = (version, refl, is)

same_some : (a b : MapVersion) → Some a ≡ Some b → a ≡ b
same_some a b is = cc

module _ (name : List ℕ) (store : Name) (h h' n : History) (now : ℕ) (held made : Option MapVersion)
    (stood : stands h.state.reads ≡ stands_for held)
    (planned : IfSome made (ReverseIsPlanned (job_of name store) (revnet_inputs h n now))) where
  abbrev run : FileRun
  run = textless_run name store [] h h'

  abbrev world : Bool → World
  world told = file_world run told

  is_new : (told : Bool) (version : MapVersion) → made ≡ Some version → IsNew (world told) 0 (file_log held) version
  is_new told version is =
      let plan = subst (λ (o : Option MapVersion). IfSome o (ReverseIsPlanned (job_of name store) (revnet_inputs h n now))) is planned in
      let last : plan.held.last ≡ held = stands_same plan.held.last held (sym plan.is_held.last ∙ stood) in
      let at : plan.held.last ≡ shown 0 (file_log held) = last ∙ sym (shown_first held) in
      inl (record {
        moment = now;
        master = ap (λ (v : MapVersion). v.master) plan.made.is;
        of_own = subst (λ (o : Option MapVersion). other_master name o ≡ None) at plan.made.order.own;
        order = subst (λ (o : Option MapVersion). order_after (last_order o) now ≡ Some version.order) at plan.made.order.next;
        rows = λ none. tt;
      })

  module _ (old new : Option History) (was : old ≡ Some h) (is : new ≡ Some h') (leaves : LeavesOnly old new (IsBeforeOrMade old made)) where
    each : (image : List ℕ) → LeftBetween (Some h) (Some h') image
        → IsLeft run held made image
    each image left =
        let here = subst (λ (o : Option History). LeavesOnly (Some h) o (IsBeforeOrMade (Some h) made)) is
        (subst (λ (o : Option History). LeavesOnly o new (IsBeforeOrMade o made)) was leaves) in
        ⊎_elim (λ before. inl before)
        (λ later. inr (⊎_elim (λ same. inl (same ∙ stood)) (λ one. inr (stands_made made image one)) later)) (here.each image left)

    stored_by : (version : MapVersion) → made ≡ Some version → ((image : List ℕ) → MayLeave new image → StandsForVersion made image)
        → (image : List ℕ) → IsImage h'.state image → stands image ≡ Stored version
    stored_by version made_is stored image may =
        let one = stands_made made image (stored image (subst (λ (o : Option History). MayLeave o image) (sym is) may)) in
        one.2 ∙ ap (λ (v : MapVersion). Stored v) (same_some one.0 version (sym one.1 ∙ made_is))

    pub by_told : (status : Status) (before after : Option (List ℕ)) (told : Bool) → tells_stored status ≡ told
        → Reverses (job_of name store) (revnet_inputs h n now) made status before after
        → (IsTrue (tells_stored status) → (image : List ℕ) → MayLeave new image → StandsForVersion made image)
        → FileCrashes (world told) held
    by_told status before after false told tells stored = record {
      log = file_log held;
      crashes = left_crashes run held made stood (is_new false) each;
    }
    by_told status before after true told tells stored =
        let version = told_made (job_of name store) (revnet_inputs h n now) made status before after told tells in
        record {
          log = file_log_with held version.0;
          crashes = stored_crashes run held made version.0
              (stored_by version.0 version.1 (stored told)) version.1 stood (is_new true) each;
        }

if_some : {A : Type 0} {P Q : A → Type 0} (o : Option A) → ((x : A) → P x → Q x) → IfSome o P → IfSome o Q
if_some None then all = tt
if_some (Some x) then all = then x all

pub revnet_holds : {S K D C A I T : Type 0} (seen : Seeing S K D C A I T) → RevnetHolds seen
revnet_holds seen name store status old new does h h' n now was is netgroups moment_is held stood =
    let P : (RevnetInputs → Type 0) → Option History → Option History → Option ℕ → Type 0 = λ Q file netgroup moment.
    IfSome moment (λ now. AtFiles file netgroup now Q) in
    let at : (Q : RevnetInputs → Type 0) → AtRevnetInputs seen old Q → Q (revnet_inputs h n now) = λ Q all.
    subst (λ m. P Q (Some h) (Some n) m) moment_is (subst (λ b. P Q (Some h) b (moment seen old)) netgroups
    (subst (λ a. P Q a (netgroup_history seen old) (moment seen old)) was all)) in
    let planned = if_some does.made (λ version. at (λ inputs. ReverseIsPlanned (job_of name store) inputs version)) does.planned in
    by_told name store h h' n now held does.made stood planned (store_history seen old) (store_history seen new) was is does.any_moment
    status (output seen old) (output seen new) (tells_stored status) refl
    (at (λ inputs. Reverses (job_of name store) inputs does.made status (output seen old) (output seen new)) does.tells)
    does.stored
