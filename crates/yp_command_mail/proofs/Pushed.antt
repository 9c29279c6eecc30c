-- What `push` did, by what it found, planned and told.
use Rattle.std.proofs.Common.{◌≡◌, ◌⊎◌, inl, inr, ℕ, ◌+◌, ◌≤◌, Bool, true, false, List, [], ◌∷◌, length, map}
use Rattle.std.proofs.Common.{Option, Some, None, Result, Ok, Err, refl, sym, ap, ◌∙◌, subst, arith}
use Rattle.std.specs.Prelude.{IfSome, IsErrOf, if◌then◌else◌}
use Rattle.std.proofs.lemmas.List.{length-map}
use Rattle.yp_io.specs.Disk.{History}
use Rattle.yp_io.specs.declared.stream.Failed.{Failed}
use Rattle.yp_version.specs.Versions.{MapVersion}
use Rattle.yp_map_file.specs.declared.fault.SlotFault.{SlotFault}
use Rattle.yp_map_file.specs.declared.fault.SlotFault.TheVariants as slot
use Rattle.yp_map_file.specs.Loads.{Loads}
use Rattle.yp_map_file.specs.Stands.{Stands, Stored, stands}
use Rattle.yp_board.specs.Catalogues.{Name, name_view}
use Rattle.yp_board.specs.declared.catalog.MapName.{MapName}
use Rattle.yp_rpc.specs.declared.turns.Ended.{Ended}
use Rattle.yp_push.specs.Ledgers.{Ledger, slaves_max}
use Rattle.yp_push.specs.inside.turns.Kept.{slave_view, request_view}
use Rattle.yp_push.specs.turns.Sendings.{Request}
use Rattle.yp_push.specs.turns.Pushers.{Slave, Pushing}
use Rattle.yp_command.specs.Words.{is_ypservers, ypservers_of}
use Rattle.yp_command.specs.declared.office.office.Office.{Office}
use Rattle.yp_command.specs.declared.office.status.Status.{Status}
use Rattle.yp_command.specs.declared.office.status.Status.TheVariants.{Done, No, WriteFault, NoMemory, InboxFault, Rows}
use Rattle.yp_command.specs.declared.office.status.Status.TheVariants.{Damaged, NoVersion, DiskFault}
use Rattle.yp_command.specs.office.Disks.{told_at}
use Rattle.yp_command.specs.office.Files.{Fails}
use Rattle.yp_command.specs.office.Seeing.{Seeing, moment, WriteFails, DiskFails, InboxFails}
use Rattle.yp_command_mail.specs.declared.finding.Found.{Found}
use Rattle.yp_command_mail.specs.declared.finding.LoadedFiles.{LoadedFiles}
use Rattle.yp_command_mail.specs.declared.finding.PushStop.{PushStop}
use Rattle.yp_command_mail.specs.declared.finding.PushStop.TheVariants as stop
use Rattle.yp_command_mail.specs.declared.finding.Which.{Which}
use Rattle.yp_command_mail.specs.declared.finding.Which.TheVariants.{Store, Servers}
use Rattle.yp_command_mail.specs.declared.push.PushPlan.{PushPlan}
use Rattle.yp_command_mail.specs.Finding.{Load, LoadsMaps, LoadsFrom, LoadsServers, StopsPush, judged, which_of}
use Rattle.yp_command_mail.specs.Push.{Job, started_at, slaves_in, ledger_of, begun}
use Rattle.yp_command_mail.specs.inside.Push.{begun_by, IsPlan, Plans, PlansFrom}
use Rattle.yp_command_mail.specs.Push.{IsPushEnd, TellsPushEnd, outcome_of, TakesPushTurns, dial_seen, IsUnsent, IsSent}
use Rattle.yp_command_mail.specs.inside.Push.{IsSentBy}
use Rattle.yp_command_mail.specs.Push.{Pushes, CanPush, PushIsComplete, FailsAt, OwnDiskFails, PushDoes}
use Rattle.yp_command_mail.specs.Telling.{TellsText, mail_seen}

-- ---- statuses

-- a text that is told ends as was wanted, or the output failed
told_as : (text : List ℕ) (wanted status : Status) (before after : Option (List ℕ)) → TellsText text wanted status before after
    → (status ≡ wanted) ⊎ (status ≡ WriteFault)
told_as [] wanted status before after h = inl h.0
told_as (byte ∷ text) wanted status before after (inl h) = inl h.0
told_as (byte ∷ text) wanted status before after (inr h) = inr h.0

-- how it ends where nothing stands in the way
abbrev Ends : Status → Type 0
Ends status = PushIsComplete status ⊎ ((status ≡ WriteFault) ⊎ (status ≡ InboxFault))

wanted_ends : {A : Type 0} (pushing : Pushing A) (wanted status : Status) → IsPushEnd pushing wanted
    → (status ≡ wanted) ⊎ (status ≡ WriteFault) → Ends status
wanted_ends pushing Done status is (inl e) = inl (inl e)
wanted_ends pushing No status is (inl e) = inl (inr (inl e))
wanted_ends pushing _ status is (inl e) = absurd is
wanted_ends pushing wanted status is (inr e) = inr (inl e)

told_ends : {A : Type 0} (end : Result Ended Failed) (last : Pushing A) (status : Status) (before after : Option (List ℕ))
    → TellsPushEnd end last status before after → Ends status
told_ends (Ok end) last status before after (inl h) =
    wanted_ends last h.wanted status h.is_end (told_as _ h.wanted status before after h.tells)
told_ends (Ok end) last status before after (inr h) = inl (inr (inr h.0))
told_ends (Err why) last status before after h = inr (inr h.0)

no_disk : (status : Status) (map : MapName) → Ends status → status ≡ DiskFault map → ⊥
no_disk status map (inl (inl h)) e = let no = sym h ∙ e in absurd cc
no_disk status map (inl (inr (inl h))) e = let no = sym h ∙ e in absurd cc
no_disk status map (inl (inr (inr h))) e = let no = sym h ∙ e in absurd cc
no_disk status map (inr (inl h)) e = let no = sym h ∙ e in absurd cc
no_disk status map (inr (inr h)) e = let no = sym h ∙ e in absurd cc

whole_of : (status : Status) → Ends status → (status ≡ WriteFault → ⊥) → (status ≡ InboxFault → ⊥) → PushIsComplete status
whole_of status (inl h) writes hears = h
whole_of status (inr (inl h)) writes hears = absurd (writes h)
whole_of status (inr (inr h)) writes hears = absurd (hears h)

-- ---- reasons

-- the reason of a disk's fault is one, and that names the map
of_disk : (store : Name) (fault : SlotFault) (status : Status) (map : MapName) → Fails store fault status
    → status ≡ DiskFault map → (fault ≡ slot.DiskFault) × (name_view map ≡ store)
of_disk store (slot.Damaged at rule) (Damaged map at' rule') other fails e = absurd cc
of_disk store (slot.Damaged at rule) _ other fails e = absurd fails
of_disk store slot.DiskFault status other fails e = (refl, subst (λ (s : Status). Fails store slot.DiskFault s) e fails)
of_disk store slot.NoMemory NoMemory other fails e = absurd cc
of_disk store slot.NoMemory _ other fails e = absurd fails

-- a disk's fault is that of one of the two loads, whose map it names
abbrev IsOfDisk : Name → Name → Load → Option Load → Type 0
IsOfDisk store map file servers =
    ((map ≡ store) × IsErrOf file slot.DiskFault)
    ⊎ ((map ≡ ypservers_of store) × ((load : Load) × (servers ≡ Some load) × IsErrOf load slot.DiskFault))

none_of_disk : (store : Name) (which : Which) (status : Status) (map : MapName) → StopsPush store (stop.NoVersion which) status
    → status ≡ DiskFault map → ⊥
none_of_disk store which (NoVersion other) map h e = absurd cc
none_of_disk store which _ map h e = absurd h

abbrev found_as : ℕ → MapVersion → Found
found_as order servers = record { order = order; servers = servers }

-- ---- what is done with what was found

module _ {S K D C A I T : Type 0} (seen : Seeing S K D C A I T) (job : Job) (now : ℕ) (status : Status)
    (old new : Office S K D C A I T) where
  sent_ends : (found : Found) → IsSent seen (started_at job now) found status old new → Ends status
  sent_ends found h = told_ends h.end h.last status _ _ h.told

  found_no_disk : (found : Found) (map : MapName) → Pushes seen (started_at job now) (Ok found) status old new
      → status ≡ DiskFault map → ⊥
  found_no_disk found map (inl (inl h)) e = no_disk status map (inl (inl h.1)) e
  found_no_disk found map (inl (inr (inl h))) e = let no = sym h.1 ∙ e in absurd cc
  found_no_disk found map (inl (inr (inr h))) e = no_disk status map (sent_ends found h.2) e
  found_no_disk found map (inr h) e = no_disk status map (inl (inr (inr h.0))) e

  stop_no_disk : (which : Which) (map : MapName)
      → Pushes seen (started_at job now) (Err (stop.NoVersion which)) status old new → status ≡ DiskFault map → ⊥
  stop_no_disk which map (inl h, unsent) e = none_of_disk job.store which status map h e
  stop_no_disk which map (inr h, unsent) e = no_disk status map (inl (inr (inr h))) e

  unloaded_disk : (which : Which) (fault : SlotFault) (map : MapName)
      → Pushes seen (started_at job now) (Err (stop.Unloaded which fault)) status old new
      → status ≡ DiskFault map → (fault ≡ slot.DiskFault) × (name_view map ≡ which_of job.store which)
  unloaded_disk which fault map (inl h, unsent) e = of_disk (which_of job.store which) fault status map h e
  unloaded_disk which fault map (inr h, unsent) e = absurd (no_disk status map (inl (inr (inr h))) e)

  -- a disk's fault that is told is that of a load
  pub from_disk : (file : Load) (servers : Option Load) (map : MapName)
      → Pushes seen (started_at job now) (judged file servers) status old new
      → status ≡ DiskFault map → IsOfDisk job.store (name_view map) file servers
  from_disk (Err fault) servers map h e =
      let is = unloaded_disk Store fault map h e in
      inl (is.1, ap Err is.0)
  from_disk (Ok None) None map h e = absurd (stop_no_disk Store map h e)
  from_disk (Ok (Some version)) None map h e = absurd (found_no_disk (found_as version.order version) map h e)
  from_disk (Ok last) (Some (Err fault)) map h e =
      let is = unloaded_disk Servers fault map h e in
      inr (is.1, (Err fault, refl, ap Err is.0))
  from_disk (Ok None) (Some (Ok more)) map h e = absurd (stop_no_disk Store map h e)
  from_disk (Ok (Some version)) (Some (Ok None)) map h e = absurd (stop_no_disk Servers map h e)
  from_disk (Ok (Some version)) (Some (Ok (Some named))) map h e =
      absurd (found_no_disk (found_as version.order named) map h e)

  -- ---- where nothing is in the way and nothing fails

  module _ (writes : status ≡ WriteFault → ⊥) (hears : status ≡ InboxFault → ⊥) where
    found_whole : (found : Found) → length (slaves_in job found) ≤ slaves_max
        → Pushes seen (started_at job now) (Ok found) status old new → PushIsComplete status
    found_whole found few (inl (inl h)) = inl h.1
    found_whole found few (inl (inr (inl h))) = absurd (omega (arith, few, h.0))
    found_whole found few (inl (inr (inr h))) = whole_of status (sent_ends found h.2) writes hears
    found_whole found few (inr h) = inr (inr h.0)

    memory_whole : (which : Which)
        → Pushes seen (started_at job now) (Err (stop.Unloaded which slot.NoMemory)) status old new
        → PushIsComplete status
    memory_whole which (inl h, unsent) = inr (inr (is_memory (which_of job.store which) status h))
      where
        is_memory : (store : Name) (status : Status) → Fails store slot.NoMemory status → status ≡ NoMemory
        is_memory store NoMemory h = refl
        is_memory store _ h = absurd h
    memory_whole which (inr h, unsent) = inr (inr h)

    few_of : (named version : MapVersion) → Stored named ≡ Stored version
        → length (slaves_in job (found_as 0 named)) ≤ slaves_max
        → (order : ℕ) → length (slaves_in job (found_as order version)) ≤ slaves_max
    few_of named version e few order =
        let same : named ≡ version = cc in
        subst (λ (v : MapVersion). length (slaves_in job (found_as order v)) ≤ slaves_max) same few

    whole_alone : (a : Stands) (file : Load) → Loads a file → CanPush job a a → (IsErrOf file slot.DiskFault → ⊥)
        → Pushes seen (started_at job now) (judged file None) status old new → PushIsComplete status
    whole_alone a (Ok None) loads free disk h = let no = sym free.is_stored ∙ loads in absurd cc
    whole_alone a (Ok (Some version)) loads free disk h =
        found_whole (found_as version.order version) (few_of free.named version (sym free.is_named ∙ loads) free.few version.order) h
    whole_alone a (Err (slot.Damaged at rule)) loads free disk h = let no = sym free.is_stored ∙ loads in absurd cc
    whole_alone a (Err slot.DiskFault) loads free disk h = absurd (disk refl)
    whole_alone a (Err slot.NoMemory) loads free disk h = memory_whole Store h

    whole_both : (a b : Stands) (file load : Load) → Loads a file → Loads b load → CanPush job a b
        → (IsErrOf file slot.DiskFault → ⊥) → (IsErrOf load slot.DiskFault → ⊥)
        → Pushes seen (started_at job now) (judged file (Some load)) status old new → PushIsComplete status
    whole_both a b (Err (slot.Damaged at rule)) load loads more free disk other h =
        let no = sym free.is_stored ∙ loads in absurd cc
    whole_both a b (Err slot.DiskFault) load loads more free disk other h = absurd (disk refl)
    whole_both a b (Err slot.NoMemory) load loads more free disk other h = memory_whole Store h
    whole_both a b (Ok last) (Err (slot.Damaged at rule)) loads more free disk other h =
        let no = sym free.is_named ∙ more in absurd cc
    whole_both a b (Ok last) (Err slot.DiskFault) loads more free disk other h = absurd (other refl)
    whole_both a b (Ok last) (Err slot.NoMemory) loads more free disk other h = memory_whole Servers h
    whole_both a b (Ok None) (Ok named) loads more free disk other h =
        let no = sym free.is_stored ∙ loads in absurd cc
    whole_both a b (Ok (Some version)) (Ok None) loads more free disk other h =
        let no = sym free.is_named ∙ more in absurd cc
    whole_both a b (Ok (Some version)) (Ok (Some named)) loads more free disk other h =
        found_whole (found_as version.order named) (few_of free.named named (sym free.is_named ∙ more) free.few version.order) h

  -- ---- in the places of the two disks

  abbrev Whole : History → History → Type 0
  Whole h s =
      CanPush job (stands h.state.reads) (stands s.state.reads) → ¬ DiskFails seen old new → ¬ InboxFails seen old new
      → ¬ WriteFails seen old new → PushIsComplete status

  module _ (writes : status ≡ WriteFault → WriteFails seen old new) (hears : status ≡ InboxFault → InboxFails seen old new)
      (file : Load) (disk : IsErrOf file slot.DiskFault → DiskFails seen old new) where
    alone : (one : Option History) → LoadsFrom one file
        → Pushes seen (started_at job now) (judged file None) status old new
        → IfSome one (λ h. IfSome one (λ s. Whole h s))
    alone None loads h = tt
    alone (Some one) loads h =
        λ free disks boxes sinks. whole_alone (λ e. sinks (writes e)) (λ e. boxes (hears e)) (stands one.state.reads) file loads free
        (λ e. disks (disk e)) h

    both : (one two : Option History) (load : Load) → LoadsFrom one file → LoadsFrom two load
        → (IsErrOf load slot.DiskFault → DiskFails seen old new)
        → Pushes seen (started_at job now) (judged file (Some load)) status old new
        → IfSome one (λ h. IfSome two (λ s. Whole h s))
    both None two load loads more other h = tt
    both (Some one) None load loads more other h = tt
    both (Some one) (Some two) load loads more other h =
        λ free disks boxes sinks. whole_both (λ e. sinks (writes e)) (λ e. boxes (hears e)) (stands one.state.reads)
        (stands two.state.reads) file load loads more free (λ e. disks (disk e)) (λ e. disks (other e)) h

    at_places : (same : Bool) (servers : Option Load) → LoadsFrom (told_at seen.disk.history 0 old.disks.items) file
        → LoadsServers same (told_at seen.disk.history 1 old.disks.items) servers
        → IfSome servers (λ load. IsErrOf load slot.DiskFault → DiskFails seen old new)
        → Pushes seen (started_at job now) (judged file servers) status old new
        → IfSome (told_at seen.disk.history 0 old.disks.items)
        (λ h. IfSome (told_at seen.disk.history (if same then 0 else 1) old.disks.items) (λ s. Whole h s))
    at_places true None one two other h = alone (told_at seen.disk.history 0 old.disks.items) one h
    at_places true (Some load) one two other h = absurd cc
    at_places false None one two other h = absurd two
    at_places false (Some load) one two other h =
        both (told_at seen.disk.history 0 old.disks.items) (told_at seen.disk.history 1 old.disks.items) load one two other h

  disk_of : (map : Name) (file : Load) (servers : Option Load)
      → (IsErrOf file slot.DiskFault → FailsAt seen 0 old new)
      → IfSome servers (λ load. IsErrOf load slot.DiskFault → FailsAt seen 1 old new)
      → IsOfDisk job.store map file servers → OwnDiskFails seen job.store map old new
  disk_of map file servers disk other (inl h) = inl (h.0, disk h.1)
  disk_of map file None disk other (inr h) = let no = h.1.1 in absurd cc
  disk_of map file (Some load) disk other (inr h) =
      let same : load ≡ h.1.0 = let e = h.1.1 in cc in
      inr (h.0, other (same ∙ h.1.2))

  -- all that `push` does
  pub push_does : (loaded : LoadedFiles)
      → LoadsMaps seen.disk.history seen.disk.faults job.store loaded old.disks.items new.disks.items
      → IfSome (moment seen old) (λ moment. now ≡ moment)
      → Pushes seen (started_at job now) (judged loaded.file loaded.servers) status old new
      → (status ≡ WriteFault → WriteFails seen old new) → (status ≡ InboxFault → InboxFails seen old new)
      → moment seen new ≡ moment seen old
      → new ≡ record old {
        wire = record old.wire { sink = new.wire.sink };
        disks = new.disks;
        clock = new.clock;
        dial = new.dial;
        inbox = new.inbox;
      } → PushDoes seen job status old new
  push_does loaded loads is_now pushes writes hears told stays = record {
    loaded = loaded;
    loads = loads;
    now = now;
    is_now = is_now;
    pushes = pushes;
    complete = at_places writes hears loaded.file loads.file_cause (is_ypservers job.store) loaded.servers loads.file loads.servers
        loads.servers_cause pushes;
    causes = record {
      write_fault = writes;
      inbox_fault = hears;
      disk_fault = λ map e.
          disk_of (name_view map) loaded.file loaded.servers loads.file_own loads.servers_own
          (from_disk loaded.file loaded.servers map pushes e);
    };
    told = told;
    stays = stays;
  }

-- ---- what comes of a plan

module _ {S K D C A I T : Type 0} (seen : Seeing S K D C A I T) (job : Job) (now : ℕ) (old new : Office S K D C A I T) where
  not_found : (found : Found) (status : Status) → Plans job now found (Err status) → IsUnsent old new
      → Pushes seen (started_at job now) (Ok found) status old new
  not_found found (Rows row rule) h unsent =
      inl (inr (inl (h.2, ap (λ (n : ℕ). Rows n rule) h.0 ∙ ap (Rows (slaves_max + 1)) h.1, unsent)))
  not_found found NoMemory h unsent = inr (refl, unsent)
  not_found found _ h unsent = absurd h

  -- none was made
  pub unplanned : (judged : Result Found PushStop) (status : Status) → PlansFrom job now judged (Err status) → IsUnsent old new
      → Pushes seen (started_at job now) judged status old new
  unplanned (Ok found) status h unsent = not_found found status h unsent
  unplanned (Err stop) status h unsent = (h, unsent)

  -- there is no slave
  pub unneeded : (judged : Result Found PushStop) → PlansFrom job now judged (Ok None) → IsUnsent old new
      → Pushes seen (started_at job now) judged Done old new
  unneeded (Ok found) h unsent = inl (inl (h, refl, unsent))
  unneeded (Err stop) h unsent = absurd h

  abbrev push_of : A → Ledger → List Slave → Request → Pushing A
  push_of dial ledger slaves request =
      record { dial = dial; ledger = ledger; slaves = slaves; request = request; starved = false }

  begun_is : (found : Found) (plan : PushPlan) (dial : A) → IsPlan job now found plan
      → length plan.slaves.items ≡ length (slaves_in job found)
      → begun_by plan dial ≡ begun (started_at job now) found dial
  begun_is found plan dial h count =
      ap (λ (l : Ledger). push_of dial l (map slave_view plan.slaves.items) (request_view plan.request))
      (h.ledger ∙ ap (ledger_of job now) count)
      ∙ ap (λ (slaves : List Slave). push_of dial (ledger_of job now (length (slaves_in job found))) slaves (request_view plan.request))
      h.slaves
      ∙ ap (push_of dial (ledger_of job now (length (slaves_in job found))) (slaves_in job found)) h.request

  -- it was pushed
  pub planned : (judged : Result Found PushStop) (plan : PushPlan) (status : Status) (mid : Office S K D C A I T)
      → mid ≡ record old { disks = mid.disks; clock = mid.clock }
      → PlansFrom job now judged (Ok (Some plan)) → IsSentBy seen job.turns plan status mid new
      → Pushes seen (started_at job now) judged status old new
  planned (Err stop) plan status mid is h sent = absurd h
  planned (Ok found) plan status mid is h (inr none) =
      let e = none.1 ∙ is in
      inr (
        none.0,
        record {
          sink = ap (λ (o : Office S K D C A I T). o.wire.sink) e;
          dial = ap (λ (o : Office S K D C A I T). o.dial) e;
          inbox = ap (λ (o : Office S K D C A I T). o.inbox) e;
        },
      )
  planned (Ok found) plan status mid is h (inl takes) =
      let count : length plan.slaves.items ≡ length (slaves_in job found) =
      sym (length-map plan.slaves.items slave_view) ∙ ap length h.slaves in
      let sent : IsSent seen (started_at job now) found status old new =
      subst (λ (first : Pushing A). TakesPushTurns (dial_seen seen) job.turns first (outcome_of status new.dial) (mail_seen seen old) (mail_seen seen new))
      (begun_is found plan old.dial h count) (subst (λ (o : Office S K D C A I T). TakesPushTurns (dial_seen seen) job.turns (begun_by plan o.dial) (outcome_of status new.dial) (mail_seen seen o) (mail_seen seen new)) is takes) in
      inl (inr (inr (omega (arith, count, h.some_), omega (arith, count, h.few), sent)))
