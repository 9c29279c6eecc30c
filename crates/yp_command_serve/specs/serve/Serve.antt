-- What `serve` does: it serves stored maps to many callers at once.
use Rattle.std.specs.Prelude.{◌≡◌, ◌⊎◌, ℕ, Bool, true, false, List, [], ◌∷◌, All, ◌++◌, map, Option, Some, None}
use Rattle.std.specs.Prelude.{slice_get, codes, decimal}
use Rattle.std.specs.List.{AllZip}
use Rattle.std.specs.Io.KnownBytes.{Appends}
use Rattle.yp_io.specs.Counts.{HasRisen, capped}
use Rattle.yp_io.specs.Disk.{History}
use Rattle.yp_io.specs.Dials.{dial_tells}
use Rattle.yp_io.specs.Streams.{AppendsFront}
use Rattle.yp_map_file.specs.declared.fault.SlotFault.{SlotFault}
use Rattle.yp_map_file.specs.declared.fault.SlotFault.TheVariants as fault
use Rattle.yp_map_file.specs.Slots.{IsSound}
use Rattle.yp_map_file.specs.Stands.{stands}
use Rattle.yp_board.specs.Catalogues.{Catalogue, Name, name_view}
use Rattle.yp_board.specs.declared.catalog.MapName.{MapName}
use Rattle.yp_publisher.specs.Begins.{IsUnwritten}
use Rattle.yp_publisher.specs.Opens.{OpeningStopped}
use Rattle.yp_transfer.specs.HostTable.{HostList}
use Rattle.yp_rpc.specs.Turns.{inbox_tells}
use Rattle.yp_worker.specs.Receptions.{ListenTells}
use Rattle.yp_command.specs.declared.office.office.Office.{Office}
use Rattle.yp_command.specs.declared.office.status.Status.{Status}
use Rattle.yp_command.specs.declared.office.status.Status.TheVariants.{Done, WriteFault, NoMemory, Damaged, DiskFault}
use Rattle.yp_command.specs.declared.office.status.Status.TheVariants.{ListenFault, InboxFault}
use Rattle.yp_command.specs.office.Disks.{names_of, disks_of}
use Rattle.yp_command.specs.office.Seeing.{Seeing, output, moment, WriteFails, DiskFails, InboxFails}
use Rattle.yp_command_serve.specs.declared.serve.tally.Hosted.{Hosted}
use Rattle.yp_server.specs.Serving.{SomeHasRisen}
use Rattle.yp_command_serve.specs.serve.Hosting.{ServeSetup, ServerTells, Supply, setup_of, server_tells, supply_of}
use Rattle.yp_command_serve.specs.serve.Hosting.{OutsideTells, IsHosted}
use Rattle.yp_command_serve.specs.serve.Log.{IsLog}

-- ---- what is asked for

-- the own name, how many connections are to be accepted, how many turns there are at the datagrams of each inbox, the
-- maps, the hosts that are known, and whether it tells what it does
pub record Job : Type 0 where
  pub own : List ℕ
  pub connections : ℕ
  pub turns : ℕ
  pub stores : List Name
  pub hosts : HostList
  pub log : Bool

abbrev pub serve_job_of : List ℕ → (connections turns : ℕ) → List Name → HostList → (log : Bool) → Job
serve_job_of own connections turns stores hosts log =
    record { own = own; connections = connections; turns = turns; stores = stores; hosts = hosts; log = log }

abbrev pub catalogue_of : Job → Catalogue
catalogue_of job = record { own = job.own; maps = job.stores }

-- ---- what is told

-- the line of so many connections and so many of their records
abbrev pub tally_line : (connections calls : ℕ) → List ℕ
tally_line connections calls =
    codes "connections " ++ decimal connections ++ codes " calls " ++ decimal calls ++ codes "\n"

-- the listener hasn't failed, and neither has an inbox
abbrev pub IsFaultless : Hosted → Type 0
IsFaultless hosted = (hosted.tally.listen_fault ≡ false) × (hosted.inbox_fault ≡ false)

-- What is told of what was served: that the listener has failed, or else that an inbox has, and then nothing is
-- printed, or else what was counted, or a front of that where the output fails.
abbrev pub TellsServed : Hosted → Status → Option (List ℕ) → Option (List ℕ) → Type 0
TellsServed hosted ListenFault before after = (hosted.tally.listen_fault ≡ true) × (after ≡ before)
TellsServed hosted InboxFault before after =
    (hosted.tally.listen_fault ≡ false) × (hosted.inbox_fault ≡ true) × (after ≡ before)
TellsServed hosted Done before after =
    IsFaultless hosted × Appends before after (tally_line hosted.tally.connections hosted.tally.calls)
TellsServed hosted WriteFault before after =
    IsFaultless hosted × AppendsFront (tally_line hosted.tally.connections hosted.tally.calls) before after
TellsServed hosted _ before after = ⊥

-- ---- what is done

-- what is served of an office, and of what
abbrev pub setup : {S K D C A I T : Type 0} → Seeing S K D C A I T → Job → Office S K D C A I T → ServeSetup
setup seen job office = setup_of (catalogue_of job) (seen.texts.text office.texts) job.hosts job.turns

-- what is told by the texts and the dial of an office
abbrev pub supply : {S K D C A I T : Type 0} → Seeing S K D C A I T → Office S K D C A I T → Supply
supply seen office =
    supply_of (seen.texts.faults office.texts)
    (dial_tells seen.dial.past seen.dial.letters seen.dial.faults office.dial)

-- what is told by a listener, by further inboxes and behind them that of an office, by the one from which is replied to
-- what those leave, and by the texts and the dial of the office, and the disks of the office
abbrev pub place : {S K D C A I T : Type 0} → Seeing S K D C A I T → OutsideTells S K D C A I T → ServerTells D
place seen outside =
    server_tells outside.doors.listen (map (λ end. end.box) outside.doors.more
    ++ inbox_tells seen.inbox.past seen.inbox.turns seen.inbox.quiets outside.office.inbox ∷ [])
    outside.doors.out.box (supply seen outside.office) (disks_of outside.office.disks.items)

-- the count of an inbox's faults rose, of that of an office or of one at the doors
abbrev pub SomeInboxFails : {S K D C A I T : Type 0} → Seeing S K D C A I T → (old new : OutsideTells S K D C A I T)
    → Type 0
SomeInboxFails seen old new =
    InboxFails seen old.office new.office ⊎ HasRisen old.doors.out.faults new.doors.out.faults
    ⊎ SomeHasRisen (map (λ end. end.faults) old.doors.more) (map (λ end. end.faults) new.doors.more)

-- A listener is to accept so many connections, and has accepted none.
pub record IsToAccept (connections : ℕ) (listen : ListenTells) : Type 0 where
  pub most : listen.most ≡ connections
  pub none : listen.accepted ≡ 0

-- The maps were served, and that is told. Where the listener was to accept as many connections as were asked for, and
-- hasn't failed, so many came. Where an inbox failed before all its turns were taken, the count of one rose, whatever
-- is told. What the listener, the inboxes and the status tell fixes what came of it, but for the totals. The last line
-- of a log tells these.
pub record ServesMaps {S K D C A I T : Type 0} (seen : Seeing S K D C A I T) (job : Job) (status : Status)
    (old new : OutsideTells S K D C A I T) (logged : List ℕ) : Type 0 where
  pub hosted : Hosted
  pub is_hosted : IsHosted seen.disk (setup seen job old.office) hosted (place seen old) (place seen new)
  pub all : IsToAccept job.connections old.doors.listen → hosted.tally.listen_fault ≡ false
      → hosted.tally.connections ≡ capped 0 job.connections
  pub inbox : hosted.inbox_fault ≡ true → SomeInboxFails seen old new
  pub tells : TellsServed hosted status (output seen old.office) (output seen new.office)
  pub log : IsLog job.log job.stores (Some hosted.totals) logged

-- Nothing was accepted, received or told: of the office the disks alone were touched. A log has no line of totals.
pub record IsShut {S K D C A I T : Type 0} (job : Job) (old new : OutsideTells S K D C A I T) (logged : List ℕ)
    : Type 0 where
  pub stays : new ≡ record old { office = record old.office { disks = new.office.disks } }
  pub log : IsLog job.log job.stores None logged

-- The file of a map of this name wasn't loaded, the first one.
pub record IsUnloaded {S K D C A I T : Type 0} (seen : Seeing S K D C A I T) (job : Job) (map : MapName)
    (why : SlotFault) (old new : Office S K D C A I T) : Type 0 where
  pub number : ℕ
  pub named : slice_get job.stores number ≡ Some (name_view map)
  pub stopped : OpeningStopped seen.disk.history seen.disk.faults (disks_of old.disks.items) (disks_of new.disks.items)
      number why

-- Memory ran out: nothing was written to a disk.
abbrev pub IsUnserved : {S K D C A I T : Type 0} → Seeing S K D C A I T → (old new : Office S K D C A I T) → Type 0
IsUnserved seen old new =
    AllZip (IsUnwritten seen.disk.history seen.disk.faults) (disks_of old.disks.items) (disks_of new.disks.items)

-- What is done, for each status.
abbrev pub ServesOrRefuses : {S K D C A I T : Type 0} → Seeing S K D C A I T → Job → Status
    → (old new : OutsideTells S K D C A I T) → (logged : List ℕ) → Type 0
ServesOrRefuses seen job (Damaged map at rule) old new logged =
    IsUnloaded seen job map (fault.Damaged at rule) old.office new.office × IsShut job old new logged
ServesOrRefuses seen job (DiskFault map) old new logged =
    IsUnloaded seen job map fault.DiskFault old.office new.office × IsShut job old new logged
ServesOrRefuses seen job NoMemory old new logged = IsUnserved seen old.office new.office × IsShut job old new logged
ServesOrRefuses seen job status old new logged = ServesMaps seen job status old new logged

-- the statuses with which `serve` may end
abbrev pub serve_may_end : Status → Bool
serve_may_end Done = true
serve_may_end WriteFault = true
serve_may_end NoMemory = true
serve_may_end (Damaged map at rule) = true
serve_may_end (DiskFault map) = true
serve_may_end ListenFault = true
serve_may_end InboxFault = true
serve_may_end _ = false

-- the file of this disk is told, and isn't damaged
pub record IsUndamaged {D : Type 0} (history : D → Option History) (disk : D) : Type 0 where
  pub told : History
  pub tells : history disk ≡ Some told
  pub sound : IsSound (stands told.state.reads)

-- A fault that is told has its cause.
pub record HasServeCauses {S K D C A I T : Type 0} (seen : Seeing S K D C A I T) (status : Status)
    (old new : OutsideTells S K D C A I T) : Type 0 where
  pub listen_fault : status ≡ ListenFault → HasRisen old.doors.listen.faults new.doors.listen.faults
  pub inbox_fault : status ≡ InboxFault → SomeInboxFails seen old new
  pub write_fault : status ≡ WriteFault → WriteFails seen old.office new.office
  pub disk_fault : (map : MapName) → status ≡ DiskFault map → DiskFails seen old.office new.office

-- What `serve` does to what is reached, and what it logs: the stored maps are served to all who call, by connections
-- and by datagrams, and what was served is told; or the first reason why not is, and then nobody was served. Over files
-- that aren't damaged, with no fault, all is done, unless memory ran out.
pub record ServeDoes {S K D C A I T : Type 0} (seen : Seeing S K D C A I T) (job : Job) (status : Status)
    (old new : OutsideTells S K D C A I T) (logged : List ℕ) : Type 0 where
  pub serves : ServesOrRefuses seen job status old new logged
  pub complete : All (IsUndamaged seen.disk.history) (disks_of old.office.disks.items)
      → ¬ HasRisen old.doors.listen.faults new.doors.listen.faults → ¬ SomeInboxFails seen old new
      → ¬ DiskFails seen old.office new.office → ¬ WriteFails seen old.office new.office
      → (status ≡ Done) ⊎ (status ≡ NoMemory)
  pub causes : HasServeCauses seen status old new
  pub names : names_of new.office.disks.items ≡ names_of old.office.disks.items
  pub told : moment seen new.office ≡ moment seen old.office
  pub texts : (file : List ℕ) → seen.texts.text new.office.texts file ≡ seen.texts.text old.office.texts file
  pub source : new.office.wire.source ≡ old.office.wire.source
