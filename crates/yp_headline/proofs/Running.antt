-- What `run` does is what the headline says.
use Rattle.std.proofs.Common.{◌≡◌, ℕ, ◌-◌, suc, Bool, true, false, List, [], ◌∷◌, take, map, Option, Some, None, sym, ap, ◌∙◌, subst, arith, inl, ⊎_elim, refl}
use Rattle.yp_io.specs.Disk.{History, IsImage, LeftIn, LeftBetween, states, moment}
use Rattle.yp_version.specs.Versions.{MapVersion}
use Rattle.yp_map_file.specs.Stands.{stands}
use Rattle.yp_publisher.specs.Standing.{stands_for}
use Rattle.yp_texts.specs.declared.kind.Kind.{Kind}
use Rattle.yp_texts.specs.declared.reading.Reading.TheVariants.{Text, Rows}
use Rattle.yp_command_serve.specs.Served.{Witnessed}
use Rattle.yp_command_serve.specs.Session.{session_job_of}
use Rattle.yp_command_serve.specs.serve.Hosting.{OutsideTells}
use Rattle.yp_end_to_end.specs.inside.transfer.Laws.{FetchedIsShown}
use Rattle.yp_end_to_end.specs.inside.transfer.Shown.{ShownBetween}
use Rattle.yp_end_to_end.specs.inside.walk.Laws.{WalkedIsShown}
use Rattle.yp_map_file.specs.inside.Laws.{ReadIsBody}
use Rattle.yp_command.specs.Words.{Meaning, Once, Session, Serve, Build, Load, Xfr, Walk, Revnet}
use Rattle.yp_command.specs.declared.office.office.Office.{Office}
use Rattle.yp_command.specs.declared.office.status.Status.{Status}
use Rattle.yp_command.specs.declared.office.status.Status.TheVariants as status
use Rattle.yp_command.specs.office.Seeing.{Seeing, history}
use Rattle.yp_command_serve.specs.serve.Serve.{serve_job_of}
use Rattle.yp_command_maps.specs.Build.{Job, job_of, tells_stored, JobDoes}
use Rattle.yp_command_maps.specs.Revnet.{store_history}
use Rattle.yp_command_maps.specs.Xfr.{xfr_job_of}
use Rattle.yp_program.specs.Commands.{AloneDoes, CommandDoes, in_office}
use Rattle.yp_headline.specs.Publishing.{IsAmong}
use Rattle.yp_headline.specs.Headline.{Crashes}
use Rattle.yp_headline.specs.inside.Files.{dialed_of, walked_of, FileRun, textless_run, file_world, file_log, done_where}
use Rattle.yp_headline.specs.inside.Worlds.{was_served}
use Rattle.yp_headline.specs.inside.Server.{was_hosted}
use Rattle.yp_headline.specs.inside.Laws.{build_run, BuildHolds}
use Rattle.yp_headline.specs.inside.Running.{CommandHolds, RunHolds}
use Rattle.yp_headline.proofs.Runs.{none_among}
use Rattle.yp_headline.proofs.Once.{once_replies}
use Rattle.yp_headline.proofs.Session.{session_holds}
use Rattle.yp_headline.proofs.Xfr.{xfr_holds}
use Rattle.yp_headline.proofs.Walk.{walk_holds}
use Rattle.yp_headline.proofs.Build.{job_holds}
use Rattle.yp_headline.proofs.Revnet.{revnet_holds}
use Rattle.yp_headline.proofs.Serve.{serve_holds}
use Rattle.yp_headline.proofs.Single.{left_crashes}

-- ---- where memory ran out before

at_once : (h : History) (image : List ℕ) → LeftBetween (Some h) (Some h) image → IsImage h.state image
at_once h image left =
    let none : moment h - moment h ≡ 0 = omega arith in
    let here : LeftIn (take 1 (states h)) image = subst (λ (n : ℕ). LeftIn (take (suc n) (states h)) image) none left in
    ⊎_elim (λ is. is) (λ no. absurd no) here

same_kind : (a b : Kind) → Some a ≡ Some b → a ≡ b
same_kind a b is = cc

same_some : (a b : History) → Some a ≡ Some b → a ≡ b
same_some a b is = cc

module _ (run : FileRun) (held : Option MapVersion) (stood : stands run.old.state.reads ≡ stands_for held) where
  abbrev unchanged : FileRun
  unchanged = record run { new = run.old }

  quiet : Crashes (file_world unchanged false) (file_log held) (file_log held)
  quiet = left_crashes unchanged held None stood (λ version made. absurd cc) (λ image left. inl (at_once run.old image left))

  untouched : (told : Bool) → run.new ≡ run.old → told ≡ false → Crashes (file_world run told) (file_log held) (file_log held)
  untouched told same none = subst (λ (x : History). Crashes (file_world (record run { new = x }) told) (file_log held) (file_log held))
      (sym same) (subst (λ (b : Bool). Crashes (file_world unchanged b) (file_log held) (file_log held)) (sym none) quiet)

module _ {S K D C A I T : Type 0} (seen : Seeing S K D C A I T) (read : ReadIsBody) (shown : FetchedIsShown) (between : ShownBetween)
    (walked : WalkedIsShown) where
  -- a command that was carried out
  commanded : (meaning : Meaning) (s : Status) (old new : Witnessed (OutsideTells S K D C A I T)) (logged : List ℕ)
      → CommandDoes seen meaning s old new logged → CommandHolds seen meaning s old.reached new.reached
  unfolding AloneDoes
  commanded (Once store rows) s old new logged does =
      λ unrefused some came taken sent input output took.
      once_replies seen store rows s (in_office old) (in_office new) does.0 unrefused some came taken sent input output took
  commanded (Session own peer stores hosts) s old new logged does =
      λ served named came taken sent input output took told told' first last wires was is few more inputs.
      session_holds seen read shown between (session_job_of own peer stores hosts) s (in_office old) (in_office new) does.0 served named came taken sent input output took told told'
      first last wires was is few more inputs
  commanded (Xfr name force store host flag) s old new logged does =
      λ h h' was is held stood first last wires dial dial' few came inputs.
      xfr_holds seen read shown between (xfr_job_of name force store host flag) s old.reached.office new.reached.office does.0.0 h h' was is held stood first last wires
      dial dial' few came inputs
  commanded (Walk name force store host port count flag) s old new logged does =
      λ h h' was is held stood told events told_before told_after.
      walk_holds seen read walked (xfr_job_of name force store host flag) count s old.reached.office new.reached.office does.0.0 h h' was is held stood told events
      told_before told_after
  commanded (Build name store flag) s old new logged does =
      λ kind of_kind text h h' now input was is moment_is held stood.
      let same : does.0.0.kind ≡ kind = same_kind does.0.0.kind kind (sym does.0.0.of_kind ∙ of_kind) in
      job_holds seen (job_of name store (Text kind) flag) s old.reached.office new.reached.office
      (subst (λ (k : Kind). JobDoes seen (job_of name store (Text k) flag) s old.reached.office new.reached.office) same does.0.0.does) text h h' now input was is moment_is
      held stood
  commanded (Load name store flag) s old new logged does =
      λ text h h' now input was is moment_is held stood.
      job_holds seen (job_of name store Rows flag) s old.reached.office new.reached.office does.0.0 text h h' now input was is moment_is held stood
  commanded (Revnet name store) s old new logged does =
      λ h h' n now was is netgroups moment_is held stood.
      revnet_holds seen name store s old.reached.office new.reached.office does.0.0 h h' n now was is netgroups moment_is held stood
  commanded (Serve own port workers connections count stores hosts log) s old new logged does =
      λ hosted events tell.
      serve_holds seen read shown between (serve_job_of own connections count stores hosts log) s old.reached new.reached logged does.0 hosted events
      tell
  commanded _ s old new logged does = tt

  unbuilt : (job : Job) (s : Status) (old new : Office S K D C A I T) → s ≡ status.NoMemory → new ≡ old
      → BuildHolds seen job s old new
  unbuilt job s old new none stays = λ text h h' now input was is moment_is held stood.
      let same : h' ≡ h = same_some h' h (sym is ∙ ap (history seen) stays ∙ was) in
      record {
        log = file_log held;
        crashes = untouched (build_run job text h h') held stood (tells_stored s) same (ap tells_stored none);
      }

  -- one for which memory ran out before
  forgone : (meaning : Meaning) (s : Status) (old new : OutsideTells S K D C A I T) → s ≡ status.NoMemory
      → new.office ≡ old.office → CommandHolds seen meaning s old new
  forgone (Once store rows) s old new none stays = λ unrefused some came taken sent input output took. absurd (some none)
  forgone (Session own peer stores hosts) s old new none stays =
      λ served named came taken sent input output took told told' first last wires was is few more inputs.
      absurd (let e : false ≡ true = sym (ap was_served none) ∙ served in cc)
  forgone (Xfr name force store host flag) s old new none stays =
      λ h h' was is held stood first last wires dial dial' few came inputs.
      let same : h' ≡ h = same_some h' h (sym is ∙ ap (history seen) stays ∙ was) in
      let told : tells_stored s ≡ false = ap tells_stored none in
      record {
        log = file_log held;
        crashes = untouched (textless_run name store (map dialed_of wires) h h') held stood (tells_stored s) same told;
        transfers = record {
          done = λ number among. absurd (none_among number (subst (λ (b : Bool). IsAmong (done_where b) number) told among));
          called_back = λ some. absurd (some refl);
        };
      }
  forgone (Walk name force store host port count flag) s old new none stays =
      λ h h' was is held stood past events before after.
      let same : h' ≡ h = same_some h' h (sym is ∙ ap (history seen) stays ∙ was) in
      let told : tells_stored s ≡ false = ap tells_stored none in
      record {
        log = file_log held;
        crashes = untouched (textless_run name store (walked_of host.1 events ∷ []) h h') held stood (tells_stored s) same told;
        transfers = record {
          done = λ number among. absurd (none_among number (subst (λ (b : Bool). IsAmong (done_where b) number) told among));
          called_back = λ some. absurd (some refl);
        };
      }
  forgone (Build name store flag) s old new none stays = λ kind of_kind. unbuilt (job_of name store (Text kind) flag) s old.office new.office none stays
  forgone (Load name store flag) s old new none stays = unbuilt (job_of name store Rows flag) s old.office new.office none stays
  forgone (Revnet name store) s old new none stays = λ h h' n now was is netgroups moment_is held stood.
      let same : h' ≡ h = same_some h' h (sym is ∙ ap (store_history seen) stays ∙ was) in
      record {
        log = file_log held;
        crashes = untouched (textless_run name store [] h h') held stood (tells_stored s) same (ap tells_stored none);
      }
  forgone (Serve own port workers connections count stores hosts log) s old new none stays =
      λ hosted events tell. absurd (let e : false ≡ true = sym (ap was_hosted none) ∙ hosted in cc)
  forgone _ s old new none stays = tt

  pub run_holds : RunHolds seen
  run_holds meaning s old new logged does = ⊎_elim (λ command. commanded meaning s old new logged command)
      (λ none. forgone meaning s old.reached new.reached none.told
      (ap (λ (outside : Witnessed (OutsideTells S K D C A I T)). outside.reached.office) none.stays)) does
