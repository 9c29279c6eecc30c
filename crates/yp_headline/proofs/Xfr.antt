-- What `xfr` does is what the headline says.
use Rattle.std.proofs.Common.{◌≡◌, ℕ, ◌≤◌, Bool, List, [], ◌∷◌, ◌++◌, length, map, Option, Some, Ok, sym, ap, ◌∙◌, subst, ⊎_elim}
use Rattle.std.specs.Prelude.{unwrap_or}
use Rattle.std.proofs.lemmas.List.{append_cancel_left}
use Rattle.yp_io.specs.Disk.{History}
use Rattle.yp_io.specs.Dials.{Connected, Wires}
use Rattle.yp_version.specs.Versions.{MapVersion}
use Rattle.yp_map_file.specs.Stands.{stands}
use Rattle.yp_map_file.specs.inside.Laws.{ReadIsBody}
use Rattle.yp_publisher.specs.Standing.{stands_for}
use Rattle.yp_transfer.specs.Fetching.{FetchOutcome}
use Rattle.yp_transfer.specs.Fetched.{place_of, Fetched}
use Rattle.yp_transfer.specs.Dialing.{FetchesFrom, sought}
use Rattle.yp_end_to_end.specs.inside.transfer.Laws.{FetchedIsShown}
use Rattle.yp_end_to_end.specs.inside.transfer.Shown.{ShownBetween}
use Rattle.yp_command.specs.declared.office.office.Office.{Office}
use Rattle.yp_command.specs.declared.office.status.Status.{Status}
use Rattle.yp_command.specs.office.Seeing.{Seeing, output, history}
use Rattle.yp_command_maps.specs.Build.{tells_stored}
use Rattle.yp_command_maps.specs.Xfr.{Job, FileVersion, wanted, XfrTransfers, XfrDeclines, XfrDoes, dialing, disk_faults}
use Rattle.yp_headline.specs.World.{Dialed}
use Rattle.yp_headline.specs.Publishing.{IsAmong}
use Rattle.yp_headline.specs.inside.Files.{dialed_of}
use Rattle.yp_headline.specs.inside.Laws.{XfrHolds, FileHolds}
use Rattle.yp_headline.proofs.Given.{fetched_gives}
use Rattle.yp_headline.proofs.Dialing.{fetched_over}
use Rattle.yp_headline.proofs.Sourced.{stream_throughout}
use Rattle.yp_headline.proofs.Storing.{Gave, world, stores_hold, nothing_holds, told_fails}

same_wires : (a b : Wires) → Some a ≡ Some b → a ≡ b
same_wires a b e = cc

module _ {S K D C A I T : Type 0} (seen : Seeing S K D C A I T) (job : Job) (status : Status)
    (old new : Office S K D C A I T) (h h' : History) (was : history seen old ≡ Some h) (is : history seen new ≡ Some h')
    (held : Option MapVersion) (stood : stands h.state.reads ≡ stands_for held) (first last : Wires) (wires : List Connected)
    (dial : (dialing seen old).past ≡ Some first) (dial' : (dialing seen new).past ≡ Some last)
    (few : length first.back ≤ length first.came) (came : last.came ≡ first.came ++ wires)
    (inputs : (wire : Connected) → IsAmong wires wire → (stream : List ℕ) × (wire.input ≡ Some stream)) where
  abbrev servers : List Dialed
  servers = map dialed_of wires

  -- a wire gave the version that was fetched
  gave : ReadIsBody → FetchedIsShown → ShownBetween → (file : FileVersion) (version : MapVersion)
      → FetchesFrom (job.host ∷ []) job.host.0 (wanted job file) (Ok version) (dialing seen old) (dialing seen new)
      → Gave job h h' (history seen old) (history seen new) was is held stood servers version
  gave read shown between file version fetches =
      let asked = wanted job file in
      let one = fetched_over asked (sought asked job.host.0 (job.host ∷ [])) version (dialing seen old) (dialing seen new) fetches
      (record { wires = first; is = dial; few = few }) in
      let from : one.came.before ≡ first = same_wires one.came.before first (sym one.came.was ∙ dial) in
      let to : one.came.after ≡ last = same_wires one.came.after last (sym one.came.is ∙ dial') in
      let all : first.came ++ one.wire ∷ [] ≡ first.came ++ wires =
      ap (λ (w : Wires). w.came ++ one.wire ∷ []) (sym from) ∙ sym one.came.came ∙ ap (λ (w : Wires). w.came) to ∙ came in
      let only : wires ≡ one.wire ∷ [] = sym (append_cancel_left first.came (one.wire ∷ []) wires all) in
      let input = inputs one.wire ([], [], only) in
      let bytes = unwrap_or one.wire.input [] in
      let stream : bytes ≡ input.0 = ap (λ (o : Option (List ℕ)). unwrap_or o []) input.1 in
      let fetched : Fetched asked (place_of 1 0 bytes) (Ok version) =
      subst (λ (l : List ℕ). Fetched asked (place_of 1 0 l) (Ok version)) (sym stream) (one.fetched input.0 input.1) in
      let gives = fetched_gives asked one.wire.peer bytes version fetched in
      record {
        server = dialed_of one.wire;
        among = ([], [], ap (map dialed_of) only);
        gives = gives;
        of_source = stream_throughout read shown between asked one.wire.peer bytes version gives fetched;
      }

  pub holds : ReadIsBody → FetchedIsShown → ShownBetween → XfrDoes seen job status old new
      → FileHolds (world job h h' (history seen old) (history seen new) was is held stood servers (tells_stored status)) held
  holds read shown between does = ⊎_elim
      (λ (t : XfrTransfers seen job status old new).
      stores_hold job h h' (history seen old) (history seen new) was is held stood servers status (output seen old) (output seen new)
      (disk_faults seen old) (disk_faults seen new) t.did.held t.did.outcome t.result
      (λ version same. gave read shown between t.did.held version
      (subst (λ (o : FetchOutcome). FetchesFrom (job.host ∷ []) job.host.0 (wanted job t.did.held) o (dialing seen old) (dialing seen new))
      same t.did.fetches)) t.did.stores t.tells)
      (λ (d : XfrDeclines seen job status old new).
      subst (λ (b : Bool). FileHolds (world job h h' (history seen old) (history seen new) was is held stood servers b) held)
      (sym (told_fails job.store d.why status d.tells))
      (nothing_holds job h h' (history seen old) (history seen new) was is held stood servers d.did.unwritten))
      does.does

pub xfr_holds : {S K D C A I T : Type 0} (seen : Seeing S K D C A I T) → ReadIsBody → FetchedIsShown → ShownBetween → XfrHolds seen
xfr_holds seen read shown between job status old new does h h' was is held stood first last wires dial dial' few came inputs =
    holds seen job status old new h h' was is held stood first last wires dial dial' few came inputs read shown between does.does
