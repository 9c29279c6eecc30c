-- What `walk` does is what the headline says.
use Rattle.std.proofs.Common.{◌≡◌, ℕ, Bool, false, List, [], ◌∷◌, ◌++◌, Option, Some, Result, Ok, Err, refl, sym, ap, ◌∙◌, subst, ⊎_elim}
use Rattle.std.proofs.lemmas.List.{append_cancel_left}
use Rattle.yp_io.specs.declared.stream.Failed.{Failed}
use Rattle.yp_io.specs.declared.stream.Peer.{Peer}
use Rattle.yp_io.specs.Disk.{History, LeavesOnly, MayLeave}
use Rattle.yp_io.specs.Inboxes.{InboxEvent}
use Rattle.yp_rpc.specs.declared.turns.Ended.{Ended}
use Rattle.yp_rpc.specs.Turns.{GainsAll}
use Rattle.yp_version.specs.Rows.{listed}
use Rattle.yp_version.specs.Versions.{MapVersion, unmarked}
use Rattle.yp_version.specs.Drafts.{Draft, empty_draft}
use Rattle.yp_map_file.specs.Stands.{stands}
use Rattle.yp_map_file.specs.inside.Laws.{ReadIsBody}
use Rattle.yp_publisher.specs.Standing.{stands_for}
use Rattle.yp_answer.specs.declared.procedure.Path.TheVariants.{Datagram as Mail}
use Rattle.yp_transfer.specs.declared.fault.XfrFault.TheVariants.{NoMemory}
use Rattle.yp_transfer.specs.Fetching.{Wanted, FetchOutcome}
use Rattle.yp_transfer.specs.walk.Standings.{WalkState, AsksOrder, AsksMaster, AsksFirst, AsksNext, AsksAgain, HasEnded, refusal}
use Rattle.yp_transfer.specs.walk.Schedules.{Walking, awaited, walk_by}
use Rattle.yp_end_to_end.specs.inside.walk.Laws.{WalkedIsShown}
use Rattle.yp_command.specs.declared.office.office.Office.{Office}
use Rattle.yp_command.specs.declared.office.status.Status.{Status}
use Rattle.yp_command.specs.office.Seeing.{Seeing, output, history}
use Rattle.yp_command_maps.specs.Build.{tells_stored}
use Rattle.yp_command_maps.specs.Xfr.{Job, FileVersion, wanted, XfrDeclines, disk_faults}
use Rattle.yp_command_maps.specs.declared.walk.walker.Came.{Came}
use Rattle.yp_command_maps.specs.declared.walk.walker.Came.TheVariants.{Outcome as HasOutcome, Spent, Failed as HasFailed}
use Rattle.yp_command_maps.specs.walk.Turns.{heard_of, Gave as Given, IsCame, WalksTo}
use Rattle.yp_command_maps.specs.walk.Walk.{Walks, WalksForNothing, WalkDoes, IsVain}
use Rattle.yp_command_mail.specs.Telling.{box}
use Rattle.yp_headline.specs.World.{Dialed}
use Rattle.yp_headline.specs.Fetching.{SayRows, Gives}
use Rattle.yp_headline.specs.Sources.{Source}
use Rattle.yp_headline.specs.inside.Files.{walked_of, mails_from}
use Rattle.yp_headline.specs.inside.Laws.{WalkHolds, FileHolds}
use Rattle.yp_headline.proofs.Said.{order_said, master_said}
use Rattle.yp_headline.proofs.Built.{rows_keep}
use Rattle.yp_headline.proofs.Listing.{listed_is}
use Rattle.yp_headline.proofs.Walked.{hears, walked}
use Rattle.yp_headline.proofs.Sourced.{Throughout, mails_throughout}
use Rattle.yp_headline.proofs.Storing.{Gave, world, stores_hold, nothing_holds, told_fails}

-- ---- what was heard

gains_some : (before events more : List InboxEvent) (old new : Option (List InboxEvent)) → old ≡ Some before
    → new ≡ Some (before ++ more) → GainsAll events old new → events ≡ more
gains_some before events more old new was is gains =
    let here = subst (λ (o : Option (List InboxEvent)). GainsAll events (Some before) o) is
    (subst (λ (o : Option (List InboxEvent)). GainsAll events o new) was gains) in
    append_cancel_left before events more (sym here)

given_draft : (standing : WalkState) (version : MapVersion) → Given standing (Ok version)
    → (draft : Draft) × (standing ≡ HasEnded (Ok draft)) × (version ≡ unmarked draft.order draft.master (listed draft.rows))
given_draft (HasEnded (Ok draft)) version is = (draft, refl, is)
given_draft (HasEnded (Err why)) version is = absurd cc
given_draft AsksOrder version is = absurd is
given_draft (AsksMaster order) version is = absurd is
given_draft (AsksFirst draft) version is = absurd is
given_draft (AsksNext draft key) version is = absurd is
given_draft (AsksAgain draft why) version is = absurd is

came_outcome : (end : Result Ended Failed) (standing : WalkState) (outcome : FetchOutcome) → IsCame end standing (HasOutcome outcome)
    → Given standing outcome
came_outcome (Ok end) standing outcome is = is
came_outcome (Err why) standing outcome is = absurd is

never_refused : {P : Type 0} (standing : WalkState) (draft : Draft) → standing ≡ refusal NoMemory → standing ≡ HasEnded (Ok draft) → P
never_refused standing draft is other = absurd cc

vain_told : (turns : ℕ) (came : Came) (status : Status) → IsVain turns came status → tells_stored status ≡ false
vain_told turns (HasOutcome outcome) status vain = absurd vain
vain_told turns Spent status vain = ap tells_stored vain
vain_told turns HasFailed status vain = ap tells_stored vain

-- what a server gave in datagrams, and that a source showed it
pub record WalkGave (peer : Peer) (asked : Wanted) (events : List InboxEvent) (version : MapVersion) : Type 0 where
  pub gives : Gives (walked_of peer events) version
  pub of_source : (source : Source (asked.domain, asked.map) gives) → Throughout (asked.domain, asked.map) gives source version

pub walk_gave : ReadIsBody → WalkedIsShown → (peer : Peer) (asked : Wanted) (events : List InboxEvent) (draft : Draft)
    → (walk_by peer asked (heard_of events)).standing ≡ HasEnded (Ok draft)
    → WalkGave peer asked events (unmarked draft.order draft.master (listed draft.rows))
walk_gave read shown peer asked events draft ended =
    let whole = walked peer asked draft (awaited peer 1 (heard_of events)) ended in
    let kept = rows_keep whole.rows (empty_draft whole.number whole.host) in
    let number : draft.order ≡ whole.number = ap (λ (d : Draft). d.order) whole.made ∙ kept.0 in
    let host : draft.master ≡ whole.host = ap (λ (d : Draft). d.master) whole.made ∙ kept.1 in
    let gives : Gives (walked_of peer events) (unmarked draft.order draft.master (listed draft.rows)) = record {
      rows = whole.rows;
      order = whole.order;
      master = whole.master;
      others = whole.others;
      heard = hears peer events 1 (whole.order ∷ whole.master ∷ whole.others) whole.rest whole.all;
      says_order = order_said 1 whole.order draft.order (whole.says_order ∙ ap (λ (n : ℕ). Ok n) (sym number));
      says_master = master_said 2 whole.master draft.master (whole.says_master ∙ ap (λ (m : List ℕ). Ok m) (sym host));
      says_rows = subst (λ (n : ℕ). SayRows Mail 3 n whole.rows whole.others) (sym number) whole.says_rows;
      not_secure = refl;
      listed = listed_is whole.number whole.host whole.rows (listed draft.rows) (ap (λ (d : Draft). listed d.rows) whole.made);
    } in
    record {
      gives = gives;
      of_source = mails_throughout read shown asked peer (mails_from peer events) draft gives whole.steps whole.ended;
    }

module _ {S K D C A I T : Type 0} (seen : Seeing S K D C A I T) (job : Job) (turns : ℕ) (status : Status)
    (old new : Office S K D C A I T) (h h' : History) (was : history seen old ≡ Some h) (is : history seen new ≡ Some h')
    (held : Option MapVersion) (stood : stands h.state.reads ≡ stands_for held) (told events : List InboxEvent)
    (before : (box seen old).past ≡ Some told) (after : (box seen new).past ≡ Some (told ++ events)) where
  abbrev servers : List Dialed
  servers = walked_of job.host.1 events ∷ []

  gave : ReadIsBody → WalkedIsShown → (file : FileVersion) (version : MapVersion)
      → WalksTo job.host.1 (wanted job file) turns (HasOutcome (Ok version)) (box seen old) (box seen new)
      → Gave job h h' (history seen old) (history seen new) was is held stood servers version
  gave read shown file version walks =
      let asked = wanted job file in
      let standing = walks.last.walk.standing in
      let parts = given_draft standing version (came_outcome walks.end standing (Ok version) walks.comes) in
      let same : walks.takes.events ≡ events = gains_some told walks.takes.events events (box seen old).past (box seen new).past
      before after walks.takes.sees.past in
      let ended : (walk_by job.host.1 asked (heard_of events)).standing ≡ HasEnded (Ok parts.0) =
      ⊎_elim (λ by. ap (λ (es : List InboxEvent). (walk_by job.host.1 asked (heard_of es)).standing) (sym same)
      ∙ ap (λ (w : Walking). w.standing) (sym by) ∙ parts.1)
      (λ out. never_refused standing parts.0 out parts.1) walks.stands in
      let one = walk_gave read shown job.host.1 asked events parts.0 ended in
      subst (Gave job h h' (history seen old) (history seen new) was is held stood servers) (sym parts.2) (record {
        server = walked_of job.host.1 events;
        among = ([], [], refl);
        gives = one.gives;
        of_source = one.of_source;
      })

  pub holds : ReadIsBody → WalkedIsShown → WalkDoes seen job turns status old new
      → FileHolds (world job h h' (history seen old) (history seen new) was is held stood servers (tells_stored status)) held
  holds read shown does = ⊎_elim
      (λ (t : Walks seen job turns status old new).
      stores_hold job h h' (history seen old) (history seen new) was is held stood servers status (output seen old) (output seen new)
      (disk_faults seen old) (disk_faults seen new) t.did.held t.did.outcome t.result
      (λ version same. gave read shown t.did.held version
      (subst (λ (o : FetchOutcome). WalksTo job.host.1 (wanted job t.did.held) turns (HasOutcome o) (box seen old) (box seen new))
      same t.did.walks)) t.did.stores t.tells)
      (λ other. ⊎_elim
      (λ (n : WalksForNothing seen job turns status old new).
      nothing (vain_told turns n.came status n.tells) n.did.unwritten)
      (λ (d : XfrDeclines seen job status old new). nothing (told_fails job.store d.why status d.tells) d.did.unwritten) other)
      does.does
    where
      nothing : tells_stored status ≡ false → LeavesOnly (history seen old) (history seen new) (MayLeave (history seen old))
          → FileHolds (world job h h' (history seen old) (history seen new) was is held stood servers (tells_stored status)) held
      nothing none unwritten =
          subst (λ (b : Bool). FileHolds (world job h h' (history seen old) (history seen new) was is held stood servers b) held)
          (sym none) (nothing_holds job h h' (history seen old) (history seen new) was is held stood servers unwritten)

pub walk_holds : {S K D C A I T : Type 0} (seen : Seeing S K D C A I T) → ReadIsBody → WalkedIsShown → WalkHolds seen
walk_holds seen read shown job turns status old new does h h' was is held stood told events before after =
    holds seen job turns status old new h h' was is held stood told events before after read shown does.does
