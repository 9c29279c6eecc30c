-- A walk whose source is a server of this product, and one that has all it needs.
use Rattle.std.proofs.Common.{◌≡◌, ◌⊎◌, inl, inr, ⊎_elim, ℕ, List, ◌++◌, Option, Some, None, Result, Ok, Err}
use Rattle.std.proofs.Common.{refl, sym, ap, ◌∙◌, subst}
use Rattle.std.specs.Prelude.{IsTrue}
use Rattle.std.proofs.lemmas.List.{append_cancel_left}
use Rattle.yp_io.specs.declared.stream.Peer.{Peer}
use Rattle.yp_io.specs.declared.stream.Failed.{Failed}
use Rattle.yp_io.specs.Counts.{HasRisen}
use Rattle.yp_io.specs.Inboxes.{InboxEvent}
use Rattle.yp_map_file.specs.declared.fault.SlotFault.{SlotFault}
use Rattle.yp_map_file.specs.declared.fault.SlotFault.TheVariants as slot
use Rattle.yp_publisher.specs.declared.install.Installed.{Installed}
use Rattle.yp_version.specs.Rows.{listed}
use Rattle.yp_version.specs.Versions.{MapVersion, unmarked}
use Rattle.yp_version.specs.Drafts.{Draft}
use Rattle.yp_board.specs.Catalogues.{Catalogue, Name}
use Rattle.yp_rpc.specs.declared.turns.Ended.{Ended}
use Rattle.yp_rpc.specs.Turns.{GainsAll}
use Rattle.yp_transfer.specs.declared.fault.XfrFault.{XfrFault}
use Rattle.yp_transfer.specs.declared.fault.XfrFault.TheVariants as fault
use Rattle.yp_transfer.specs.Fetching.{FetchOutcome, Wanted}
use Rattle.yp_transfer.specs.walk.Standings.{WalkState, HasEnded, refusal}
use Rattle.yp_transfer.specs.walk.Schedules.{walk_by}
use Rattle.yp_end_to_end.specs.walk.Laws.{AnswersWalk, IsWalkedOf, IsSkewOf}
use Rattle.yp_end_to_end.specs.inside.walk.Laws.{DeliveredIsOfSource, DeliveredSkews}
use Rattle.yp_command.specs.declared.office.office.Office.{Office}
use Rattle.yp_command.specs.declared.office.status.Status.{Status}
use Rattle.yp_command.specs.declared.office.status.Status.TheVariants.{Done, WriteFault, NoMemory, InboxFault, Unanswered, Xfr}
use Rattle.yp_command.specs.office.Files.{Fails}
use Rattle.yp_command.specs.office.Seeing.{Seeing, history, WriteFails, DiskFails, InboxFails}
use Rattle.yp_command_maps.specs.Build.{tells_stored}
use Rattle.yp_command_maps.specs.Xfr.{Job, FileVersion, StoresOutcome, TellsXfr, wanted, against, disk_faults}
use Rattle.yp_command_mail.specs.Telling.{box}
use Rattle.yp_command_maps.specs.declared.walk.walker.Came.{Came}
use Rattle.yp_command_maps.specs.declared.walk.walker.Came.TheVariants.{Outcome as HasOutcome, Spent, Failed as HasFailed}
use Rattle.yp_command_maps.specs.walk.Turns.{heard_of, IsCame, WalksTo}
use Rattle.yp_command_maps.specs.walk.Walk.{WalkDoes, Walks, WalksForNothing, IsVain}
use Rattle.yp_program.specs.Transferring.{TransferIsStored, IsToldHeld}
use Rattle.yp_program.specs.Walking.{Happened, walk_of}
use Rattle.yp_program.proofs.Sourced.{held_same, not_loaded, stored_of, by_outcome, unloaded}

-- ---- how a walk ended

-- a walk that gave a version ended with its rows
with_rows : (end : Result Ended Failed) (standing : WalkState) (version : MapVersion)
    → IsCame end standing (HasOutcome (Ok version))
    → (draft : Draft) × (standing ≡ HasEnded (Ok draft))
    × (version ≡ unmarked draft.order draft.master (listed draft.rows))
with_rows (Ok end) (HasEnded (Ok draft)) version came = (draft, refl, came)
with_rows (Ok end) (HasEnded (Err why)) version came = absurd cc
with_rows (Ok end) _ version came = absurd came
with_rows (Err why) standing version came = absurd came

-- where its rows came, it gave their version, or memory ran out
gave_rows : (end : Result Ended Failed) (standing : WalkState) (draft : Draft) (outcome : FetchOutcome)
    → standing ≡ HasEnded (Ok draft) → IsCame end standing (HasOutcome outcome)
    → (outcome ≡ Ok (unmarked draft.order draft.master (listed draft.rows))) ⊎ (outcome ≡ Err fault.NoMemory)
gave_rows end standing draft outcome is came = by end outcome (subst (λ (s : WalkState). IsCame end s (HasOutcome outcome)) is came)
  where
    by : (end : Result Ended Failed) (outcome : FetchOutcome) → IsCame end (HasEnded (Ok draft)) (HasOutcome outcome)
        → (outcome ≡ Ok (unmarked draft.order draft.master (listed draft.rows))) ⊎ (outcome ≡ Err fault.NoMemory)
    by (Ok e) (Ok version) c = inl (ap (λ (v : MapVersion). Ok v) c)
    by (Ok e) (Err why) c = inr (ap (λ (w : XfrFault). Err w) c)
    by (Err why) o c = absurd c

gave_no_memory : (end : Result Ended Failed) (standing : WalkState) (outcome : FetchOutcome)
    → standing ≡ refusal fault.NoMemory → IsCame end standing (HasOutcome outcome) → outcome ≡ Err fault.NoMemory
gave_no_memory end standing outcome is came = by end (subst (λ (s : WalkState). IsCame end s (HasOutcome outcome)) is came)
  where
    by : (end : Result Ended Failed) → IsCame end (refusal fault.NoMemory) (HasOutcome outcome) → outcome ≡ Err fault.NoMemory
    by (Ok e) c = c
    by (Err why) c = absurd c

-- it isn't outstanding then
not_spent : (end : Result Ended Failed) (standing : WalkState) (outcome : Result Draft XfrFault)
    → standing ≡ HasEnded outcome → IsCame end standing Spent → ⊥
not_spent end standing outcome is came = by end (subst (λ (s : WalkState). IsCame end s Spent) is came)
  where
    by : (end : Result Ended Failed) → IsCame end (HasEnded outcome) Spent → ⊥
    by (Ok e) c = c.0
    by (Err why) c = c

not_vain : (turns : ℕ) (came : Came) → IsVain turns came Done → ⊥
not_vain turns Spent is = cc
not_vain turns HasFailed is = cc
not_vain turns (HasOutcome outcome) is = is

vain_told : (turns : ℕ) (came : Came) (status : Status) → IsVain turns came status → IsTrue (tells_stored status) → ⊥
vain_told turns Spent status is told =
    let wrong : IsTrue (tells_stored (Unanswered turns)) = subst (λ (s : Status). IsTrue (tells_stored s)) is told in cc
vain_told turns HasFailed status is told =
    let wrong : IsTrue (tells_stored InboxFault) = subst (λ (s : Status). IsTrue (tells_stored s)) is told in cc
vain_told turns (HasOutcome outcome) status is told = is

-- ---- a walk that met two orders

-- they are told of that alone
told_skew : (store : Name) (result : Result Installed XfrFault) (status : Status) (first second : ℕ)
    (before after : Option (List ℕ)) → TellsXfr store result status before after
    → status ≡ Xfr (fault.Skew first second) → result ≡ Err (fault.Skew first second)
told_skew store (Ok installed) status first second before after tells is =
    absurd (subst (λ (s : Status). TellsXfr store (Ok installed) s before after) is tells)
told_skew store (Err fault.NoMemory) status first second before after tells is =
    absurd (let wrong : NoMemory ≡ Xfr (fault.Skew first second) = sym tells.0 ∙ is in cc)
told_skew store (Err why) status first second before after tells is =
    let both : Xfr why ≡ Xfr (fault.Skew first second) = sym tells.0 ∙ is in
    let same : why ≡ fault.Skew first second = cc in
    ap (λ (w : XfrFault). Err w) same

came_skew : (job : Job) (held : FileVersion) (Failed : Type 0) (outcome : FetchOutcome) (first second : ℕ)
    → StoresOutcome job held Failed outcome (Err (fault.Skew first second)) → outcome ≡ Err (fault.Skew first second)
came_skew job held Failed (Ok version) first second comes = absurd comes
came_skew job held Failed (Err why) first second comes =
    let same : why ≡ fault.Skew first second = cc in
    ap (λ (w : XfrFault). Err w) same

ended_skew : (end : Result Ended Failed) (standing : WalkState) (first second : ℕ)
    → IsCame end standing (HasOutcome (Err (fault.Skew first second))) → standing ≡ HasEnded (Err (fault.Skew first second))
ended_skew (Ok end) (HasEnded (Ok draft)) first second came =
    absurd (let wrong : fault.Skew first second ≡ fault.NoMemory = came in cc)
ended_skew (Ok end) (HasEnded (Err why)) first second came =
    let same : why ≡ fault.Skew first second = cc in
    ap (λ (w : XfrFault). HasEnded (Err w)) same
ended_skew (Ok end) _ first second came = absurd came
ended_skew (Err why) standing first second came = absurd came

vain_skew : (turns : ℕ) (came : Came) (status : Status) (why : XfrFault) → IsVain turns came status
    → status ≡ Xfr why → ⊥
vain_skew turns Spent status why is skew = let wrong : Unanswered turns ≡ Xfr why = sym is ∙ skew in cc
vain_skew turns HasFailed status why is skew = let wrong : InboxFault ≡ Xfr why = sym is ∙ skew in cc
vain_skew turns (HasOutcome outcome) status why is skew = is

declined_skew : (store : Name) (cause : SlotFault) (status : Status) (why : XfrFault) → Fails store cause status
    → status ≡ Xfr why → ⊥
declined_skew store cause status why fails is = by cause (subst (λ (s : Status). Fails store cause s) is fails)
  where
    by : (c : SlotFault) → Fails store c (Xfr why) → ⊥
    by (slot.Damaged at rule) f = f
    by slot.DiskFault f = f
    by slot.NoMemory f = f

module _ {S K D C A I T : Type 0} (seen : Seeing S K D C A I T) (job : Job) (turns : ℕ) (status : Status)
    (old new : Office S K D C A I T) (events : List InboxEvent) (held : FileVersion) (told : IsToldHeld (history seen old) held)
    (happened : Happened seen events old new) where
  -- what happened is what the walk met
  same_posts : (others : List InboxEvent) → GainsAll others (box seen old).past (box seen new).past → others ≡ events
  same_posts others gains =
      let both = subst (λ (p : Option (List InboxEvent)). GainsAll others (box seen old).past p) happened.after gains in
      let all : happened.told ++ events ≡ happened.told ++ others =
      subst (λ (p : Option (List InboxEvent)). GainsAll others p (Some (happened.told ++ events))) happened.before both in
      append_cancel_left happened.told others events (sym all)

  -- the walk that these mails lead to, unless memory ran out
  stood : (other : FileVersion) (came : Came) → other ≡ held
      → (walks : WalksTo job.host.1 (wanted job other) turns came (box seen old) (box seen new))
      → (walks.last.walk ≡ walk_by job.host.1 (wanted job held) (heard_of events))
      ⊎ (walks.last.walk.standing ≡ refusal fault.NoMemory)
  stood other came same walks =
      ⊎_elim
      (λ is. inl (is
      ∙ ap (λ (h : FileVersion). walk_by job.host.1 (wanted job h) (heard_of walks.takes.events)) same
      ∙ ap (λ (ps : List InboxEvent). walk_by job.host.1 (wanted job held) (heard_of ps))
      (same_posts walks.takes.events walks.takes.sees.past)))
      (λ out. inr out) walks.stands

  pub of_walk : (catalogue : Catalogue) (caller : Peer) → DeliveredIsOfSource → WalkDoes seen job turns status old new
      → (answers : AnswersWalk catalogue (walk_of caller job (wanted job held) events))
      → IsTrue (tells_stored status)
      → TransferIsStored (λ asked version. IsWalkedOf catalogue (walk_of caller job asked events) answers.log
      answers.last.front version) job (history seen old) (history seen new)
  of_walk catalogue caller law does answers tells =
      let Of : Wanted → MapVersion → Type 0 = λ asked version. IsWalkedOf catalogue (walk_of caller job asked events)
      answers.log answers.last.front version in
      ⊎_elim
      (λ (did : Walks seen job turns status old new).
      let same = held_same (history seen old) did.did.held held did.did.stores.is_held told in
      stored_of seen job status old new Of did.did.held did.did.outcome did.result _
      (λ version is.
      let walks = did.did.walks in
      let ended = with_rows walks.end walks.last.walk.standing version
      (subst (λ (o : FetchOutcome). IsCame walks.end walks.last.walk.standing (HasOutcome o)) is walks.comes) in
      let here : (walk_by job.host.1 (wanted job held) (heard_of events)).standing ≡ HasEnded (Ok ended.0) =
      ⊎_elim (λ at. ap (λ walk. walk.standing) (sym at) ∙ ended.1)
      (λ out. absurd (let wrong : refusal fault.NoMemory ≡ HasEnded (Ok ended.0) = sym out ∙ ended.1 in cc))
      (stood did.did.held (HasOutcome did.did.outcome) same walks) in
      let one = law catalogue (walk_of caller job (wanted job held) events) ended.0 answers here in
      subst (λ (h : FileVersion). Of (wanted job h) version) (sym same)
      (subst (λ (v : MapVersion). Of (wanted job held) v) (sym ended.2) one))
      did.did.stores.is_held did.did.stores.comes did.did.stores.stored did.tells tells)
      (λ others. ⊎_elim
      (λ (vain : WalksForNothing seen job turns status old new). absurd (vain_told turns vain.came status vain.tells tells))
      (λ declined. absurd (not_loaded job.store declined.why status declined.tells tells)) others)
      does.does

  pub of_skew : (catalogue : Catalogue) (caller : Peer) (first second : ℕ) → DeliveredSkews
      → WalkDoes seen job turns status old new
      → (answers : AnswersWalk catalogue (walk_of caller job (wanted job held) events))
      → status ≡ Xfr (fault.Skew first second)
      → IsSkewOf catalogue (walk_of caller job (wanted job held) events) answers.log answers.last.front first second
  of_skew catalogue caller first second law does answers is =
      ⊎_elim
      (λ (did : Walks seen job turns status old new).
      let same = held_same (history seen old) did.did.held held did.did.stores.is_held told in
      let walks = did.did.walks in
      let result = told_skew job.store did.result status first second _ _ did.tells is in
      let outcome = came_skew job did.did.held _ did.did.outcome first second
      (subst (λ (r : Result Installed XfrFault). StoresOutcome job did.did.held
      (HasRisen (disk_faults seen old) (disk_faults seen new)) did.did.outcome r) result did.did.stores.comes) in
      let ended = ended_skew walks.end walks.last.walk.standing first second
      (subst (λ (o : FetchOutcome). IsCame walks.end walks.last.walk.standing (HasOutcome o)) outcome walks.comes) in
      let here : (walk_by job.host.1 (wanted job held) (heard_of events)).standing
      ≡ HasEnded (Err (fault.Skew first second)) =
      ⊎_elim (λ at. ap (λ walk. walk.standing) (sym at) ∙ ended)
      (λ out. absurd (let wrong : refusal fault.NoMemory ≡ HasEnded (Err (fault.Skew first second)) = sym out ∙ ended in cc))
      (stood did.did.held (HasOutcome did.did.outcome) same walks) in
      law catalogue (walk_of caller job (wanted job held) events) first second answers here)
      (λ others. ⊎_elim
      (λ (vain : WalksForNothing seen job turns status old new).
      absurd (vain_skew turns vain.came status (fault.Skew first second) vain.tells is))
      (λ declined. absurd (declined_skew job.store declined.why status (fault.Skew first second) declined.tells is))
      others)
      does.does

  pub whole : (draft : Draft) → WalkDoes seen job turns status old new
      → (walk_by job.host.1 (wanted job held) (heard_of events)).standing ≡ HasEnded (Ok draft)
      → against job held (unmarked draft.order draft.master (listed draft.rows)) ≡ None
      → (InboxFails seen old new → ⊥) → (DiskFails seen old new → ⊥) → (WriteFails seen old new → ⊥)
      → (status ≡ Done) ⊎ (status ≡ NoMemory)
  whole draft does is unopposed inboxes disks writes =
      let version = unmarked draft.order draft.master (listed draft.rows) in
      let no_write : (status ≡ WriteFault → ⊥) = λ fault. writes (does.write_fault fault) in
      ⊎_elim
      (λ (did : Walks seen job turns status old new).
      let same = held_same (history seen old) did.did.held held did.did.stores.is_held told in
      let walks = did.did.walks in
      let gave : (did.did.outcome ≡ Ok version) ⊎ (did.did.outcome ≡ Err fault.NoMemory) =
      ⊎_elim
      (λ at. gave_rows walks.end walks.last.walk.standing draft did.did.outcome (ap (λ walk. walk.standing) at ∙ is) walks.comes)
      (λ out. inr (gave_no_memory walks.end walks.last.walk.standing did.did.outcome out walks.comes))
      (stood did.did.held (HasOutcome did.did.outcome) same walks) in
      by_outcome seen job status old new held version told unopposed disks no_write did.did.outcome
      did.did.outcome did.did.held did.result same refl gave did.did.stores.comes did.tells)
      (λ others. ⊎_elim
      (λ (vain : WalksForNothing seen job turns status old new). absurd (in_vain vain))
      (λ declined. unloaded seen job status old new held version told unopposed disks no_write
      declined.why status refl declined.tells declined.did.cause declined.did.disk_fault) others)
      does.does
    where
      in_vain : WalksForNothing seen job turns status old new → ⊥
      in_vain vain =
          let same = held_same (history seen old) vain.did.held held vain.did.is_held told in
          by vain.came vain.tells vain.did.walks (stood vain.did.held vain.came same vain.did.walks)
        where
          by : (came : Came) → IsVain turns came status
              → (walks : WalksTo job.host.1 (wanted job vain.did.held) turns came (box seen old) (box seen new))
              → (walks.last.walk ≡ walk_by job.host.1 (wanted job held) (heard_of events))
              ⊎ (walks.last.walk.standing ≡ refusal fault.NoMemory) → ⊥
          by Spent vain_is walks at =
              ⊎_elim
              (λ here. not_spent walks.end walks.last.walk.standing (Ok draft) (ap (λ walk. walk.standing) here ∙ is) walks.comes)
              (λ out. not_spent walks.end walks.last.walk.standing (Err fault.NoMemory) out walks.comes) at
          by HasFailed vain_is walks at = inboxes (does.inbox_fault vain_is)
          by (HasOutcome outcome) vain_is walks at = vain_is
