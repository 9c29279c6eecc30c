-- What was done, by what is told of it.
use Rattle.std.proofs.Common.{◌≡◌, inl, inr, ⊎_elim, ℕ, List, [], ◌∷◌, ◌++◌, length, map, Bool, true, false, Option, Some, None, Result, Ok, Err, refl, sym, ap, ◌∙◌, subst, arith}
use Rattle.std.specs.Prelude.{IfOk, IfErr, OnErr}
use Rattle.std.specs.List.{AllZip}
use Rattle.std.proofs.lemmas.List.{same_from_push}
use Rattle.yp_io.specs.Counts.{HasRisen, capped}
use Rattle.yp_io.specs.Disk.{History}
use Rattle.yp_io.specs.declared.disk.Disk as disk
use Rattle.yp_map_file.specs.declared.fault.SlotFault.{SlotFault}
use Rattle.yp_map_file.specs.declared.fault.SlotFault.TheVariants as fault
use Rattle.yp_board.specs.Catalogues.{Name}
use Rattle.yp_board.specs.declared.catalog.MapName.{MapName}
use Rattle.yp_publisher.specs.Begins.{IsUnwritten}
use Rattle.yp_publisher.specs.Opens.{IsOpened, OpeningStopped}
use Rattle.yp_publisher.specs.Standing.{StoredMap}
use Rattle.yp_publisher.specs.sharing.Failures as publisher
use Rattle.yp_worker.specs.Receptions.{ListenTells, IsListenerState}
use Rattle.yp_command.specs.declared.office.office.Office.{Office}
use Rattle.yp_command.specs.declared.office.status.Status.{Status}
use Rattle.yp_command.specs.declared.office.status.Status.TheVariants.{Done, WriteFault, NoMemory, Damaged, DiskFault}
use Rattle.yp_command.specs.declared.office.status.Status.TheVariants.{ListenFault, InboxFault}
use Rattle.yp_command.specs.office.Disks.{names_of, disks_of}
use Rattle.yp_command.specs.office.Files.{Fails}
use Rattle.yp_command.specs.inside.office.Files.{TellsOf}
use Rattle.yp_command.specs.office.Seeing.{Seeing, output, moment, WriteFails, DiskFails}
use Rattle.yp_command_serve.specs.declared.serve.resources.NotHosted.{NotHosted}
use Rattle.yp_command_serve.specs.declared.serve.resources.HostResources.{HostResources}
use Rattle.yp_command_serve.specs.declared.serve.resources.NotHosted.TheVariants as unhosted
use Rattle.yp_command_serve.specs.declared.serve.tally.Hosted.{Hosted}
use Rattle.yp_command_serve.specs.serve.Hosting.{ServeSetup, ServerTells, DoorTells, OutsideTells, outside_tells}
use Rattle.yp_command_serve.specs.serve.Hosting.{IsServed, IsHosted, first_of}
use Rattle.yp_command_serve.specs.inside.serve.Hosting.{IsUnhosted}
use Rattle.yp_command_serve.specs.serve.Serve.{Job, setup, place, SomeInboxFails, IsToAccept, ServesMaps, IsShut}
use Rattle.yp_command_serve.specs.serve.Serve.{ServesOrRefuses, TellsServed, HasServeCauses, ServeDoes}
use Rattle.yp_command_serve.specs.serve.Log.{IsLog}
use Rattle.yp_command_serve.specs.inside.serve.Serve.{TellsServeEnd, IsWithin}
use Rattle.yp_command_serve.specs.inside.serve.Log.{totals_told}
use Rattle.yp_command_serve.proofs.serve.Completed.{completes}
use Rattle.yp_command_serve.proofs.serve.Disks.{nothing_written, opened_written, stopped_written, stopped_risen, stopped_count}

-- as many connections came as were to, where the listener hasn't failed
pub all_came : (old now : ListenTells) (connections wanted : ℕ) (failed : Bool)
    → IsListenerState old now connections failed 0 1 → IsToAccept wanted old
    → failed ≡ false → connections ≡ capped 0 wanted
all_came old now connections wanted failed kept ready fine =
    let over : now.accepted ≡ now.most =
    ⊎_elim (λ yes. absurd (let no : true ≡ false = sym yes ∙ fine in cc)) (λ all. all) (kept.over (omega arith)) in
    let count : kept.accepts.count ≡ wanted =
    omega (arith, over, kept.most, kept.accepts.accepted, ready.most, ready.none) in
    kept.accepts.connections_are ∙ ap (capped 0) count

module _ {S K D C A I T : Type 0} (seen : Seeing S K D C A I T) (job : Job) (status : Status)
    (old new : OutsideTells S K D C A I T) (logged : List ℕ) where
  -- what was served is told by its status
  pub served_told : (hosted : Hosted) → IsHosted seen.disk (setup seen job old.office) hosted
      (place seen old) (place seen new)
      → (hosted.inbox_fault ≡ true → SomeInboxFails seen old new)
      → IsLog job.log job.stores (Some hosted.totals) logged
      → TellsServed hosted status (output seen old.office) (output seen new.office)
      → ServesOrRefuses seen job status old new logged
  served_told hosted is inbox log tells = by_status status tells
    where
      maps : (s : Status) → TellsServed hosted s (output seen old.office) (output seen new.office)
          → ServesMaps seen job s old new logged
      maps s told = record {
        hosted = hosted;
        is_hosted = is;
        all = λ ready fine. all_came old.doors.listen new.doors.listen hosted.tally.connections job.connections
            hosted.tally.listen_fault is.served.connections ready fine;
        inbox = inbox;
        tells = told;
        log = log;
      }

      by_status : (s : Status) → TellsServed hosted s (output seen old.office) (output seen new.office)
          → ServesOrRefuses seen job s old new logged
      by_status Done told = maps Done told
      by_status WriteFault told = maps WriteFault told
      by_status ListenFault told = maps ListenFault told
      by_status InboxFault told = maps InboxFault told
      by_status s told = absurd told

  -- want of memory is told of disks that were stopped at, or were all loaded
  pub memory_told : IsShut job old new logged → AllZip (IsUnwritten seen.disk.history seen.disk.faults)
      (disks_of old.office.disks.items) (disks_of new.office.disks.items) → status ≡ NoMemory
      → ServesOrRefuses seen job status old new logged
  memory_told shut unwritten is =
      subst (λ s. ServesOrRefuses seen job s old new logged) (sym is) (unwritten, shut)

  pub stopped_told : (number : ℕ) (why : SlotFault) → IsShut job old new logged
      → OpeningStopped seen.disk.history seen.disk.faults (disks_of old.office.disks.items) (disks_of new.office.disks.items) number why
      → TellsOf job.stores number why status → ServesOrRefuses seen job status old new logged
  stopped_told number why shut stopped (inl is) =
      subst (λ s. ServesOrRefuses seen job s old new logged) (sym is) (
        stopped_written seen.disk.history seen.disk.faults (disks_of old.office.disks.items)
            (disks_of new.office.disks.items) number why stopped,
        shut,
      )
  stopped_told number why shut stopped (inr (store, found, fails)) = by_fault why stopped status fails
    where
      by_fault : (w : SlotFault)
          → OpeningStopped seen.disk.history seen.disk.faults (disks_of old.office.disks.items) (disks_of new.office.disks.items) number w
          → (s : Status) → Fails store w s → ServesOrRefuses seen job s old new logged
      by_fault (fault.Damaged at rule) stopped (Damaged map at' rule') fails = (
        record {
          number = number;
          named = found ∙ ap (λ (n : Name). Some n) (sym fails.0);
          stopped = rw (fails.1, fails.2) stopped;
        },
        shut,
      )
      by_fault fault.DiskFault stopped (DiskFault map) fails = (
        record {
          number = number;
          named = found ∙ ap (λ (n : Name). Some n) (sym fails);
          stopped = stopped;
        },
        shut,
      )
      by_fault fault.NoMemory stopped NoMemory fails = (
        stopped_written seen.disk.history seen.disk.faults (disks_of old.office.disks.items)
            (disks_of new.office.disks.items) number fault.NoMemory stopped,
        shut,
      )
      by_fault w stopped s fails = absurd fails

  -- a fault of a disk is told where its count rose
  pub risen_of : (number : ℕ) (why : SlotFault) (map : MapName) → status ≡ DiskFault map
      → OpeningStopped seen.disk.history seen.disk.faults (disks_of old.office.disks.items) (disks_of new.office.disks.items) number why
      → TellsOf job.stores number why status → DiskFails seen old.office new.office
  risen_of number why map is stopped (inl memory) = absurd (let no : NoMemory ≡ DiskFault map = sym memory ∙ is in cc)
  risen_of number (fault.Damaged at rule) map is stopped (inr (store, found, fails)) =
      absurd (subst (λ s. Fails store (fault.Damaged at rule) s) is fails)
  risen_of number fault.DiskFault map is stopped (inr (store, found, fails)) =
      stopped_risen seen.disk.history seen.disk.faults old.office.disks.items new.office.disks.items number stopped
  risen_of number fault.NoMemory map is stopped (inr (store, found, fails)) =
      absurd (subst (λ s. Fails store fault.NoMemory s) is fails)

-- the statuses of a map that wasn't loaded
is_load : Status → Bool
is_load (Damaged map at rule) = true
is_load (DiskFault map) = true
is_load NoMemory = true
is_load status = false

fails_load : (store : Name) (why : SlotFault) (status : Status) → Fails store why status → is_load status ≡ true
unfolding is_load
fails_load store (fault.Damaged at rule) (Damaged map at' rule') fails = refl
fails_load store fault.DiskFault (DiskFault map) fails = refl
fails_load store fault.NoMemory NoMemory fails = refl
fails_load store _ _ fails = absurd fails

told_load : (names : List Name) (number : ℕ) (why : SlotFault) (status : Status) → TellsOf names number why status
    → is_load status ≡ true
unfolding is_load
told_load names number why status (inl is) = ap is_load is
told_load names number why status (inr (store, found, fails)) = fails_load store why status fails

-- none of them tells that an accept, the inbox or the output has failed
no_listen : (status : Status) → is_load status ≡ true → status ≡ ListenFault → ⊥
unfolding is_load
no_listen status is e = let no : is_load ListenFault ≡ true = subst (λ s. is_load s ≡ true) e is in absurd cc

no_inbox : (status : Status) → is_load status ≡ true → status ≡ InboxFault → ⊥
unfolding is_load
no_inbox status is e = let no : is_load InboxFault ≡ true = subst (λ s. is_load s ≡ true) e is in absurd cc

module _ {S K D C A I T : Type 0} (seen : Seeing S K D C A I T) (job : Job) (status : Status)
    (old new : OutsideTells S K D C A I T) (logged : List ℕ) where
  -- what was served, or why nobody was, is told by its status
  pub end_told : (hosted : Result Hosted NotHosted)
      → IfOk hosted (λ h. IsHosted seen.disk (setup seen job old.office) h (place seen old) (place seen new))
      → IfErr hosted (λ why. IsUnhosted seen.disk.history seen.disk.faults why
      (disks_of old.office.disks.items) (disks_of new.office.disks.items))
      → OnErr hosted (IsShut job old new logged)
      → IfOk hosted (λ h. h.inbox_fault ≡ true → SomeInboxFails seen old new)
      → IsLog job.log job.stores (totals_told hosted) logged
      → TellsServeEnd hosted job.stores status (output seen old.office) (output seen new.office)
      → ServesOrRefuses seen job status old new logged
  end_told (Ok h) is un shut inbox log tells =
      served_told seen job status old new logged h is inbox log tells
  end_told (Err (unhosted.Unloaded number why)) is un shut inbox log tells =
      stopped_told seen job status old new logged number why shut un tells
  end_told (Err unhosted.NoMemory) is un shut inbox log tells =
      memory_told seen job status old new logged shut un tells

  -- a failed accept is told where the listener's count rose
  pub listen_risen : (hosted : Result Hosted NotHosted)
      → IfOk hosted (λ h. IsHosted seen.disk (setup seen job old.office) h (place seen old) (place seen new))
      → TellsServeEnd hosted job.stores status (output seen old.office) (output seen new.office) → status ≡ ListenFault
      → HasRisen old.doors.listen.faults new.doors.listen.faults
  listen_risen (Ok h) is tells e =
      let told = subst (λ s. TellsServed h s (output seen old.office) (output seen new.office)) e tells in
      is.served.connections.fault told.0
  listen_risen (Err (unhosted.Unloaded number why)) is tells e =
      absurd (no_listen status (told_load job.stores number why status tells) e)
  listen_risen (Err unhosted.NoMemory) is tells e = absurd (let no : NoMemory ≡ ListenFault = sym tells ∙ e in cc)

  -- a fault of the inbox is told where its count rose
  pub inbox_risen : (hosted : Result Hosted NotHosted)
      → IfOk hosted (λ h. h.inbox_fault ≡ true → SomeInboxFails seen old new)
      → TellsServeEnd hosted job.stores status (output seen old.office) (output seen new.office) → status ≡ InboxFault
      → SomeInboxFails seen old new
  inbox_risen (Ok h) cause tells e =
      let told = subst (λ s. TellsServed h s (output seen old.office) (output seen new.office)) e tells in
      cause told.1
  inbox_risen (Err (unhosted.Unloaded number why)) cause tells e =
      absurd (no_inbox status (told_load job.stores number why status tells) e)
  inbox_risen (Err unhosted.NoMemory) cause tells e = absurd (let no : NoMemory ≡ InboxFault = sym tells ∙ e in cc)

  -- a fault of a disk is told where its count rose
  pub disk_risen : (hosted : Result Hosted NotHosted) (map : MapName)
      → IfErr hosted (λ why. IsUnhosted seen.disk.history seen.disk.faults why
      (disks_of old.office.disks.items) (disks_of new.office.disks.items))
      → TellsServeEnd hosted job.stores status (output seen old.office) (output seen new.office) → status ≡ DiskFault map
      → DiskFails seen old.office new.office
  disk_risen (Ok h) map un tells e =
      absurd (subst (λ s. TellsServed h s (output seen old.office) (output seen new.office)) e tells)
  disk_risen (Err (unhosted.Unloaded number why)) map un tells e =
      risen_of seen job status old new logged number why map e un tells
  disk_risen (Err unhosted.NoMemory) map un tells e = absurd (let no : NoMemory ≡ DiskFault map = sym tells ∙ e in cc)

-- nothing was told
nothing_logged : (log : Bool) (maps : List Name) → IsLog log maps None []
nothing_logged false maps = refl
nothing_logged true maps = ([], refl)

-- nothing was done
pub nothing_done : {S K D C A I T : Type 0} (seen : Seeing S K D C A I T) (job : Job)
    (office : Office S K D C A I T) (door door' : DoorTells) → door' ≡ door
    → ServeDoes seen job NoMemory (outside_tells office door) (outside_tells office door') []
nothing_done seen job office door door' same = record {
  serves = (
    nothing_written seen.disk.history seen.disk.faults (disks_of office.disks.items),
    record { stays = ap (λ (d : DoorTells). outside_tells office d) same; log = nothing_logged job.log job.stores },
  );
  complete = λ sound listen inbox disk write. inr refl;
  causes = record {
    listen_fault = λ e. absurd (let no : NoMemory ≡ ListenFault = e in cc);
    inbox_fault = λ e. absurd (let no : NoMemory ≡ InboxFault = e in cc);
    write_fault = λ e. absurd (let no : NoMemory ≡ WriteFault = e in cc);
    disk_fault = λ map e. absurd (let no : NoMemory ≡ DiskFault map = e in cc);
  };
  names = refl;
  told = refl;
  texts = λ file. refl;
  source = refl;
}

-- where memory ran out once all files were loaded, nothing was written
pub unhosted_of : {D : Type 0} (history : D → Option History) (faults : D → ℕ) (hosted : Result Hosted NotHosted)
    (old : List D) (opened : List (StoredMap D)) (new : List D) → AllZip (IsOpened history faults) old opened
    → IfErr hosted (λ why. why ≡ unhosted.NoMemory) → OnErr hosted (new ≡ map (λ (k : StoredMap D). k.disk) opened)
    → IfErr hosted (λ why. IsUnhosted history faults why old new)
unhosted_of history faults (Ok h) old opened new each is same = tt
unhosted_of history faults (Err why) old opened new each is same =
    subst (λ (w : NotHosted). IsUnhosted history faults w old new) (sym is)
    (opened_written history faults old opened new each same)

-- maps that were loaded, and then served
pub hosted_of : {D : Type 0} (seen : disk.Ghosts D) (setup : ServeSetup) (hosted : Result Hosted NotHosted)
    (loaded : List (StoredMap D)) (was now : ServerTells D) → AllZip (IsOpened seen.history seen.faults) was.disks loaded
    → IfOk hosted (λ h. IsServed seen setup (first_of loaded) h (record was { disks = publisher.disks_of loaded }) now)
    → IfOk hosted (λ h. IsHosted seen setup h was now)
hosted_of seen setup (Ok h) loaded was now opened served = record { maps = loaded; opened = opened; served = served }
hosted_of seen setup (Err why) loaded was now opened served = tt

-- the same, of what is told in other words
pub hosted_at : {D : Type 0} (seen : disk.Ghosts D) (setup : ServeSetup) (hosted : Result Hosted NotHosted)
    (was now old new : ServerTells D) → was ≡ old → now ≡ new → IfOk hosted (λ h. IsHosted seen setup h was now)
    → IfOk hosted (λ h. IsHosted seen setup h old new)
hosted_at {D} seen setup hosted was now old new a b is =
    subst (λ (n : ServerTells D). IfOk hosted (λ h. IsHosted seen setup h old n)) b
    (subst (λ (o : ServerTells D). IfOk hosted (λ h. IsHosted seen setup h o now)) a is)

-- the map whose file wasn't loaded is one of as many as there are disks
pub number_within : {D : Type 0} (history : D → Option History) (faults : D → ℕ)
    (hosted : Result Hosted NotHosted) (old new : List D) (count : ℕ) → length old ≡ count
    → IfErr hosted (λ why. IsUnhosted history faults why old new) → IfErr hosted (IsWithin count)
number_within history faults (Ok h) old new count e un = tt
number_within history faults (Err unhosted.NoMemory) old new count e un = tt
number_within history faults (Err (unhosted.Unloaded number why)) old new count e un =
    let within = (stopped_count history faults old new number why un).1 in omega (arith, within, e)

-- where nobody was served, an office is as it was but for its disks, and its doors tell the same
pub shut_of : {S K D C A I T L : Type 0} (job : Job) (old new : Office S K D C A I T)
    (resources back : HostResources D A T C L I) (inbox : I) (more : List I) (door door' : DoorTells)
    (tells : L → List I → I → DoorTells) (logged : List ℕ) (hosted : Result Hosted NotHosted)
    → IsLog job.log job.stores (totals_told hosted) logged
    → resources.desk.dial ≡ old.dial → resources.desk.texts ≡ old.texts → resources.desk.clock ≡ old.clock
    → resources.inboxes.items ≡ more ++ old.inbox ∷ []
    → (rest : List I) → back.inboxes.items ≡ rest ++ inbox ∷ []
    → door ≡ tells resources.listen more resources.outbox → door' ≡ tells back.listen rest back.outbox
    → new ≡ record {
      wire = record old.wire { sink = new.wire.sink };
      disks = new.disks;
      clock = back.desk.clock;
      dial = back.desk.dial;
      inbox = inbox;
      texts = back.desk.texts;
    }
    → OnErr hosted (back ≡ record resources { disks = back.disks }) → OnErr hosted (new.wire.sink ≡ old.wire.sink)
    → OnErr hosted (IsShut job (outside_tells old door) (outside_tells new door') logged)
shut_of job old new resources back inbox more door door' tells logged (Ok h) log a b c d rest e f g form same sink = tt
shut_of {S} {K} {D} {C} {A} {I} {T} {L} job old new resources back inbox more door door' tells logged (Err why) log a b c d rest e f g form same sink =
    let together : rest ++ inbox ∷ [] ≡ more ++ old.inbox ∷ [] =
    sym e ∙ ap (λ (s : HostResources D A T C L I). s.inboxes.items) same ∙ d in
    let parts = same_from_push rest more inbox old.inbox together in
    let office : new ≡ record old { disks = new.disks } =
    form
    ∙ ap (λ (s : HostResources D A T C L I). record {
      wire = record old.wire { sink = new.wire.sink };
      disks = new.disks;
      clock = s.desk.clock;
      dial = s.desk.dial;
      inbox = inbox;
      texts = s.desk.texts;
    }) same
    ∙ rw (a, b, c, parts.1, sink) refl in
    let doors : door' ≡ door =
    g ∙ ap (λ (s : HostResources D A T C L I). tells s.listen rest s.outbox) same
    ∙ ap (λ (l : List I). tells resources.listen l resources.outbox) parts.0 ∙ sym f in
    record {
      stays = ap (λ (o : Office S K D C A I T). outside_tells o door') office
          ∙ ap (λ (d : DoorTells). outside_tells (record old { disks = new.disks }) d) doors;
      log = log;
    }

-- all that was done, of what is told of it
pub all_done : {S K D C A I T : Type 0} (seen : Seeing S K D C A I T) (job : Job) (status : Status)
    (old new : OutsideTells S K D C A I T) (logged : List ℕ) (hosted : Result Hosted NotHosted)
    (apart back : List D)
    → apart ≡ disks_of old.office.disks.items → back ≡ disks_of new.office.disks.items
    → IfOk hosted (λ h. IsHosted seen.disk (setup seen job old.office) h (place seen old) (place seen new))
    → IfErr hosted (λ why. IsUnhosted seen.disk.history seen.disk.faults why apart back)
    → OnErr hosted (IsShut job old new logged)
    → IsLog job.log job.stores (totals_told hosted) logged
    → TellsServeEnd hosted job.stores status (output seen old.office) (output seen new.office)
    → IfOk hosted (λ h. h.inbox_fault ≡ true → SomeInboxFails seen old new)
    → (status ≡ WriteFault → WriteFails seen old.office new.office) → names_of new.office.disks.items ≡ names_of old.office.disks.items
    → moment seen new.office ≡ moment seen old.office
    → ((file : List ℕ) → seen.texts.text new.office.texts file ≡ seen.texts.text old.office.texts file)
    → new.office.wire.source ≡ old.office.wire.source → ServeDoes seen job status old new logged
all_done {D = D} seen job status old new logged hosted apart back a b is un shut log tells inbox write names
    told texts source =
    let Un : List D → List D → Type 0 = λ l m. IfErr hosted (λ why. IsUnhosted seen.disk.history seen.disk.faults
    why l m) in
    let was = disks_of old.office.disks.items in
    let now = disks_of new.office.disks.items in
    let un' : Un was now = subst (λ (m : List D). Un was m) b (subst (λ (l : List D). Un l back) a un) in
    let serves = end_told seen job status old new logged hosted is un' shut inbox log tells in
    let causes : HasServeCauses seen status old new = record {
      listen_fault = λ e. listen_risen seen job status old new logged hosted is tells e;
      inbox_fault = λ e. inbox_risen seen job status old new logged hosted inbox tells e;
      write_fault = write;
      disk_fault = λ map e. disk_risen seen job status old new logged hosted map un' tells e;
    } in
    record {
      serves = serves;
      complete = λ sound listen inbox disk write'. completes seen job old new logged status serves causes sound
          listen inbox disk write';
      causes = causes;
      names = names;
      told = told;
      texts = texts;
      source = source;
    }
