-- A transfer whose source is a server of this product, and one that has all it needs.
use Rattle.std.proofs.Common.{◌≡◌, ◌⊎◌, inl, inr, ⊎_elim, ℕ, ◌≤◌, List, [], ◌∷◌, ◌++◌, length, Option, Some, None, Result, Ok, Err}
use Rattle.std.proofs.Common.{refl, sym, ap, ◌∙◌, subst}
use Rattle.std.specs.Prelude.{IfSome, OnOk, IsTrue}
use Rattle.yp_io.specs.declared.stream.Peer.{Peer}
use Rattle.yp_io.specs.Disk.{History, MayLeave}
use Rattle.yp_version.specs.Versions.{MapVersion}
use Rattle.yp_map_file.specs.declared.fault.SlotFault.{SlotFault}
use Rattle.yp_map_file.specs.declared.fault.SlotFault.TheVariants as slot
use Rattle.yp_map_file.specs.Loads.{Loads}
use Rattle.yp_map_file.specs.Stands.{stands}
use Rattle.yp_map_file.specs.Stands as stood
use Rattle.yp_board.specs.Catalogues.{Catalogue, Name}
use Rattle.yp_publisher.specs.declared.install.Installed.{Installed}
use Rattle.yp_publisher.specs.Installs.{Refusal}
use Rattle.yp_publisher.specs.Standing.{stands_for}
use Rattle.yp_client.specs.query.Complete.{HasCome}
use Rattle.yp_end_to_end.specs.exchange.Runs.{sent_all}
use Rattle.yp_end_to_end.specs.exchange.LogRuns.{replies_of, ServerRun}
use Rattle.yp_transfer.specs.declared.fault.XfrFault.{XfrFault}
use Rattle.yp_transfer.specs.declared.fault.XfrFault.TheVariants as fault
use Rattle.yp_transfer.specs.Fetching.{Wanted, FetchOutcome}
use Rattle.yp_transfer.specs.Fetched.{place_of, Fetched}
use Rattle.yp_transfer.specs.Dialing.{FetchesFrom}
use Rattle.yp_transfer.specs.inside.Laws.{FetchedIsOne}
use Rattle.yp_end_to_end.specs.transfer.Runs.{AnswersFetch, IsOfSource}
use Rattle.yp_end_to_end.specs.inside.transfer.Runs.{RunIsFetched, WireIsFetched}
use Rattle.yp_command.specs.declared.office.office.Office.{Office}
use Rattle.yp_command.specs.declared.office.status.Status.{Status}
use Rattle.yp_command.specs.declared.office.status.Status.TheVariants.{Done, WriteFault, NoMemory, Damaged, DiskFault, Xfr}
use Rattle.yp_command.specs.office.Files.{Fails}
use Rattle.yp_command.specs.office.Seeing.{Seeing, output, history, DiskFails, DialFails}
use Rattle.yp_command_maps.specs.Build.{TellsLine, tells_stored}
use Rattle.yp_command_maps.specs.Xfr.{Job, FileVersion, IsFileVersion, wanted, against, IsFetchedIn, IsNotStored, StoresOutcome, TellsXfr, xfr_line}
use Rattle.yp_command_maps.specs.Xfr.{XfrTransfers, XfrDoes, dialing}
use Rattle.yp_program.specs.Transferring.{TransferIsStored, IsToldHeld}

-- ---- statuses

not_told : (store : Name) (why : XfrFault) (status : Status) (before after : Option (List ℕ))
    → TellsXfr store (Err why) status before after → IsTrue (tells_stored status) → ⊥
not_told store fault.NoMemory status before after tells told =
    let wrong : IsTrue (tells_stored NoMemory) = subst (λ (s : Status). IsTrue (tells_stored s)) tells.0 told in cc
not_told store why status before after tells told =
    let wrong : IsTrue (tells_stored (Xfr why)) = subst (λ (s : Status). IsTrue (tells_stored s)) tells.0 told in cc

pub not_loaded : (store : Name) (why : SlotFault) (status : Status) → Fails store why status → IsTrue (tells_stored status)
    → ⊥
not_loaded store (slot.Damaged at rule) (Damaged map a r) fails told = cc
not_loaded store slot.DiskFault (DiskFault map) fails told = cc
not_loaded store slot.NoMemory NoMemory fails told = cc
not_loaded store _ _ fails told = fails

-- ---- what the file had

stands_same : (a b : Option MapVersion) → stands_for a ≡ stands_for b → a ≡ b
stands_same None None e = refl
stands_same None (Some v) e = absurd cc
stands_same (Some v) None e = absurd cc
stands_same (Some v) (Some w) e = cc

never_damaged : (a : Option MapVersion) (at rule : ℕ) → stands_for a ≡ stood.Damaged at rule → ⊥
never_damaged None at rule e = cc
never_damaged (Some v) at rule e = cc

abbrev held_with : Option MapVersion → ℕ → FileVersion
held_with version generation = record { version = version; generation = generation }

pub held_same : (old : Option History) (held other : FileVersion) → IsFileVersion old held → IsToldHeld old other → held ≡ other
held_same old held other is told =
    let here = subst (λ (h : Option History). IsFileVersion h held) told.tells is in
    let version : held.version ≡ other.version =
    stands_same held.version other.version (sym here.version ∙ told.version) in
    let generation : held.generation ≡ other.generation = here.generation ∙ sym told.generation in
    ap (λ (v : Option MapVersion). held_with v held.generation) version
    ∙ ap (λ (n : ℕ). held_with other.version n) generation

-- ---- one that nothing stands against

unopposed : (cause : Option Refusal) (Failed : Type 0) (why : XfrFault) → cause ≡ None
    → IsNotStored cause Failed why → (Failed → ⊥) → why ≡ fault.NoMemory
unopposed cause Failed fault.Refused none is fine = absurd (let no = is.1 in cc)
unopposed cause Failed (fault.Age was offered) none is fine = absurd cc
unopposed cause Failed fault.File none is fine =
    absurd (⊎_elim (λ spent. cc) (λ failed. fine failed.1) is)
unopposed cause Failed fault.NoMemory none is fine = refl
unopposed cause Failed _ none is fine = absurd is

line_done : (text : List ℕ) (status : Status) (before after : Option (List ℕ)) → TellsLine text status before after
    → (status ≡ WriteFault → ⊥) → (status ≡ Done) ⊎ (status ≡ NoMemory)
line_done text Done before after tells fine = inl refl
line_done text WriteFault before after tells fine = absurd (fine refl)
line_done text _ before after tells fine = absurd tells

module _ {S K D C A I T : Type 0} (seen : Seeing S K D C A I T) (job : Job) (status : Status)
    (old new : Office S K D C A I T) where
  -- what was fetched is stored, and is what P says of it
  pub stored_of : (P : Wanted → MapVersion → Type 0) (held : FileVersion) (outcome : FetchOutcome)
      (result : Result Installed XfrFault) (Failed : Type 0)
      → ((version : MapVersion) → outcome ≡ Ok version → P (wanted job held) version)
      → IsFileVersion (history seen old) held → StoresOutcome job held Failed outcome result
      → OnOk result ((image : List ℕ) → MayLeave (history seen new) image → IsFetchedIn job held outcome image)
      → TellsXfr job.store result status (output seen old) (output seen new) → IsTrue (tells_stored status)
      → TransferIsStored P job (history seen old) (history seen new)
  stored_of P held (Ok version) (Ok installed) Failed of_source is comes stored tells told = record {
    held = held;
    is_held = is;
    version = version;
    of_source = of_source version refl;
    stored = stored;
  }
  stored_of P held (Err why) (Ok installed) Failed of_source is comes stored tells told = absurd cc
  stored_of P held outcome (Err why) Failed of_source is comes stored tells told =
      absurd (not_told job.store why status _ _ tells told)

  module _ (catalogue : Catalogue) (run : ServerRun) where
    pub of_run : (caller : Peer) (rest : List ℕ) → RunIsFetched
        → length job.store.0 ≤ 64 → length job.store.1 ≤ 64 → XfrDoes seen job status old new
        → AnswersFetch catalogue caller job.store.0 job.store.1 run
        → HasCome job.host.1 (sent_all (replies_of run.turns) ++ rest) (seen.dial.past old.dial)
        (seen.dial.past new.dial)
        → IsTrue (tells_stored status)
        → TransferIsStored (λ asked version. IsOfSource catalogue asked run.logs version) job (history seen old)
        (history seen new)
    of_run caller rest law domain map does answers came told =
        ⊎_elim
        (λ did. stored_of (λ asked version. IsOfSource catalogue asked run.logs version) did.did.held did.did.outcome
        did.result _ (λ version is.
        law catalogue job.host.1 caller (job.host ∷ []) job.host.0 (wanted job did.did.held) run rest version
        (dialing seen old) (dialing seen new) domain map answers came
        (subst (λ (o : FetchOutcome). FetchesFrom (job.host ∷ []) job.host.0 (wanted job did.did.held) o
        (dialing seen old) (dialing seen new)) is did.did.fetches))
        did.did.stores.is_held did.did.stores.comes did.did.stores.stored did.tells told)
        (λ did. absurd (not_loaded job.store did.why status did.tells told)) does.does

  module _ (held : FileVersion) (version : MapVersion) (told : IsToldHeld (history seen old) held)
      (unopposed_is : against job held version ≡ None) (disks : DiskFails seen old new → ⊥)
      (writes : status ≡ WriteFault → ⊥) where
    -- one that came is stored and told
    came_whole : (other : FileVersion) (result : Result Installed XfrFault) → other ≡ held
        → StoresOutcome job other (DiskFails seen old new) (Ok version) result
        → TellsXfr job.store result status (output seen old) (output seen new) → (status ≡ Done) ⊎ (status ≡ NoMemory)
    came_whole other (Ok installed) same comes tells =
        line_done (xfr_line job.store installed.order installed.generation) status _ _ tells writes
    came_whole other (Err why) same comes tells =
        let here = subst (λ (h : FileVersion). IsNotStored (against job h version) (DiskFails seen old new) why) same comes in
        let is : why ≡ fault.NoMemory =
        unopposed (against job held version) (DiskFails seen old new) why unopposed_is here disks in
        let memory = subst (λ (w : XfrFault). TellsXfr job.store (Err w) status (output seen old) (output seen new)) is
        tells in
        inr memory.0

    none_came_whole : (why : XfrFault) (other : FileVersion) (result : Result Installed XfrFault) → why ≡ fault.NoMemory
        → StoresOutcome job other (DiskFails seen old new) (Err why) result
        → TellsXfr job.store result status (output seen old) (output seen new) → (status ≡ Done) ⊎ (status ≡ NoMemory)
    none_came_whole why other result is comes tells =
        let memory : result ≡ Err fault.NoMemory = comes ∙ ap (λ (w : XfrFault). Err w) is in
        let here = subst (λ (r : Result Installed XfrFault). TellsXfr job.store r status (output seen old)
        (output seen new)) memory tells in
        inr here.0

    pub by_outcome : (outcome said : FetchOutcome) (other : FileVersion) (result : Result Installed XfrFault) → other ≡ held
        → outcome ≡ said → (said ≡ Ok version) ⊎ (said ≡ Err fault.NoMemory)
        → StoresOutcome job other (DiskFails seen old new) outcome result
        → TellsXfr job.store result status (output seen old) (output seen new) → (status ≡ Done) ⊎ (status ≡ NoMemory)
    by_outcome outcome said other result same is (inl came) comes tells =
        came_whole other result same (subst (λ (o : FetchOutcome). StoresOutcome job other (DiskFails seen old new) o result)
        (is ∙ came) comes) tells
    by_outcome outcome said other result same is (inr memory) comes tells =
        none_came_whole fault.NoMemory other result refl
        (subst (λ (o : FetchOutcome). StoresOutcome job other (DiskFails seen old new) o result) (is ∙ memory) comes) tells

    transferred : (DialFails seen old new → ⊥) → (stream : List ℕ) → WireIsFetched → FetchedIsOne
        → HasCome job.host.1 stream (seen.dial.past old.dial) (seen.dial.past new.dial)
        → Fetched (wanted job held) (place_of 1 0 stream) (Ok version) → XfrTransfers seen job status old new
        → (status ≡ Done) ⊎ (status ≡ NoMemory)
    transferred dials stream wire one came fetched did =
        let same = held_same (history seen old) did.did.held held did.did.stores.is_held told in
        let asked = subst (λ (h : FileVersion). FetchesFrom (job.host ∷ []) job.host.0 (wanted job h) did.did.outcome
        (dialing seen old) (dialing seen new)) same did.did.fetches in
        let said = wire job.host.1 stream (job.host ∷ []) job.host.0 (wanted job held) did.did.outcome
        (dialing seen old) (dialing seen new) came asked in
        let is : (did.did.outcome ≡ Ok version) ⊎ (did.did.outcome ≡ Err fault.NoMemory) =
        ⊎_elim (λ here. inl (one (wanted job held) (place_of 1 0 stream) did.did.outcome (Ok version) here fetched))
        (λ failed. ⊎_elim (λ risen. absurd (dials risen.1)) (λ memory. inr memory) failed) said in
        by_outcome did.did.outcome did.did.outcome did.did.held did.result same refl is did.did.stores.comes did.tells

    pub unloaded : (why : SlotFault) (shown : Status) → shown ≡ status → Fails job.store why shown
        → IfSome (history seen old) (λ h. Loads (stands h.state.reads) (Err why))
        → (why ≡ slot.DiskFault → DiskFails seen old new) → (status ≡ Done) ⊎ (status ≡ NoMemory)
    unloaded (slot.Damaged at rule) shown is fails cause risen =
        let here = subst (λ (h : Option History). IfSome h (λ h. Loads (stands h.state.reads)
        (Err (slot.Damaged at rule)))) told.tells cause in
        absurd (never_damaged held.version at rule (sym told.version ∙ here))
    unloaded slot.DiskFault shown is fails cause risen = absurd (disks (risen refl))
    unloaded slot.NoMemory NoMemory is fails cause risen = inr (sym is)
    unloaded slot.NoMemory _ is fails cause risen = absurd fails

    pub whole : (DialFails seen old new → ⊥) → (stream : List ℕ) → WireIsFetched → FetchedIsOne
        → HasCome job.host.1 stream (seen.dial.past old.dial) (seen.dial.past new.dial)
        → Fetched (wanted job held) (place_of 1 0 stream) (Ok version) → XfrDoes seen job status old new
        → (status ≡ Done) ⊎ (status ≡ NoMemory)
    whole dials stream wire one came fetched does =
        ⊎_elim (λ did. transferred dials stream wire one came fetched did)
        (λ did. unloaded did.why status refl did.tells did.did.cause did.did.disk_fault) does.does
