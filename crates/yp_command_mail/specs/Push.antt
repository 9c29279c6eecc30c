-- What `push` does: it asks the slaves of a map's domain to fetch it, and tells what came of each.
use Rattle.std.specs.Prelude.{◌≡◌, ◌⊎◌, ℕ, ◌+◌, ◌<◌, ◌≤◌, Bool, true, false, List, [], length, map, Option}
use Rattle.std.specs.Prelude.{Result, Ok, Err, IfSome, if◌then◌else◌}
use Rattle.yp_io.specs.Counts.{HasRisen}
use Rattle.yp_io.specs.Disk.{History}
use Rattle.yp_io.specs.Dials.{DialTells, dial_tells}
use Rattle.yp_io.specs.declared.stream.Failed.{Failed}
use Rattle.yp_version.specs.Versions.{MapVersion}
use Rattle.yp_map_file.specs.Stands.{Stands, Stored, stands}
use Rattle.yp_board.specs.Catalogues.{Name, name_view}
use Rattle.yp_board.specs.declared.catalog.MapName.{MapName}
use Rattle.yp_transfer.specs.HostTable.{HostList}
use Rattle.yp_rpc.specs.declared.turns.Ended.{Ended}
use Rattle.yp_rpc.specs.Turns.{turn_state, TakesTurns}
use Rattle.yp_push.specs.Ledgers.{Ledger, slaves_max}
use Rattle.yp_push.specs.turns.Sendings.{Request}
use Rattle.yp_push.specs.turns.Slaves.{slaves_of}
use Rattle.yp_push.specs.turns.Pushers.{Slave, Pushing, pushing_ways}
use Rattle.yp_push.specs.turns.Printed.{push_text, AllHaveMap}
use Rattle.yp_command.specs.Words.{is_ypservers, ypservers_of}
use Rattle.yp_command.specs.declared.office.office.Office.{Office}
use Rattle.yp_command.specs.declared.office.status.Status.{Status}
use Rattle.yp_command.specs.declared.office.status.Status.TheVariants.{Done, No, WriteFault, NoMemory, InboxFault, Rows}
use Rattle.yp_command.specs.declared.office.status.Status.TheVariants.{Damaged, NoVersion, DiskFault}
use Rattle.yp_command.specs.office.Disks.{told_at, faults_at}
use Rattle.yp_command.specs.office.Rows.{rows_rule}
use Rattle.yp_command.specs.office.Seeing.{Seeing, moment, WriteFails, DiskFails, InboxFails}
use Rattle.yp_command_mail.specs.declared.finding.Found.{Found}
use Rattle.yp_command_mail.specs.declared.finding.LoadedFiles.{LoadedFiles}
use Rattle.yp_command_mail.specs.declared.finding.PushStop.{PushStop}
use Rattle.yp_command_mail.specs.Finding.{LoadsMaps, StopsPush, judged}
use Rattle.yp_command_mail.specs.Telling.{TellsText, MailTells, mail_seen}

-- ---- what is to be pushed

-- the own name, the port, how many slaves may be outstanding, how many turns there are, the map, and known hosts
pub record Job : Type 0 where
  pub name : List ℕ
  pub port : ℕ
  pub window : ℕ
  pub turns : ℕ
  pub store : Name
  pub hosts : HostList

abbrev pub job_of : List ℕ → (port window turns : ℕ) → Name → HostList → Job
job_of name port window turns store hosts =
    record { name = name; port = port; window = window; turns = turns; store = store; hosts = hosts }

-- a job, and the moment at which it is started
pub record StartedJob : Type 0 where
  pub job : Job
  pub now : ℕ

abbrev pub started_at : Job → ℕ → StartedJob
started_at job now = record { job = job; now = now }

-- the slaves: the servers of the domain but the own name, in rising order
abbrev pub slaves_in : Job → Found → List Slave
slaves_in job found = slaves_of job.name job.hosts found.servers.rows

-- what they are asked
abbrev pub request_of : Job → Found → Request
request_of job found = record { store = job.store; order = found.order; name = job.name; port = job.port }

-- the ledger of a push to so many slaves at a moment, before anything happened
abbrev pub ledger_of : Job → (now count : ℕ) → Ledger
ledger_of job now count = record { slaves = count; first = now; window = job.window; events = [] }

-- a push of this version to these slaves, over a dial, before its first turn
abbrev pub begun : {A : Type 0} → StartedJob → Found → A → Pushing A
begun started found dial = record {
  dial = dial;
  ledger = ledger_of started.job started.now (length (slaves_in started.job found));
  slaves = slaves_in started.job found;
  request = request_of started.job found;
  starved = false;
}

-- ---- how it ends

-- the status of slaves of which each has the map, and of others
abbrev pub IsPushEnd : {A : Type 0} → Pushing A → Status → Type 0
IsPushEnd pushing Done = AllHaveMap pushing
IsPushEnd pushing No = ¬ AllHaveMap pushing
IsPushEnd pushing _ = ⊥

-- The lines of the slaves are told, with that status.
pub record TellsSlaves {A : Type 0} (pushing : Pushing A) (status : Status) (before after : Option (List ℕ))
    : Type 0 where
  pub fed : pushing.starved ≡ false
  pub wanted : Status
  pub is_end : IsPushEnd pushing wanted
  pub tells : TellsText (push_text pushing) wanted status before after

-- How a push that ended so is told: by its lines, or that memory ran out, or that the inbox failed.
abbrev pub TellsPushEnd : {A : Type 0} → Result Ended Failed → Pushing A → Status → (before after : Option (List ℕ))
    → Type 0
TellsPushEnd (Ok end) pushing status before after =
    TellsSlaves pushing status before after ⊎ ((status ≡ NoMemory) × (after ≡ before))
TellsPushEnd (Err why) pushing status before after = (status ≡ InboxFault) × (after ≡ before)

-- how a push ended: its status, and the dial that it hands back
pub record PushOutcome (A : Type 0) : Type 0 where
  pub status : Status
  pub dial : A

abbrev pub outcome_of : {A : Type 0} → Status → A → PushOutcome A
outcome_of status dial = record { status = status; dial = dial }

-- The turns were taken in which slaves are asked and tell how it went, and that is told. The dial is then as they left
-- it.
pub record TakesPushTurns {A : Type 0} (tells : A → DialTells) (turns : ℕ) (first : Pushing A)
    (outcome : PushOutcome A) (old new : MailTells) : Type 0 where
  pub end : Result Ended Failed
  pub last : Pushing A
  pub takes : TakesTurns (pushing_ways tells) turns end (turn_state first old.box) (turn_state last new.box)
  pub dial_is : outcome.dial ≡ last.dial
  pub told : TellsPushEnd end last outcome.status old.output new.output

-- ---- the command

-- what the dial of an office tells
abbrev pub dial_seen : {S K D C A I T : Type 0} → Seeing S K D C A I T → A → DialTells
dial_seen seen = dial_tells seen.dial.past seen.dial.letters seen.dial.faults

-- no slave was asked, and nothing was told
pub record IsUnsent {S K D C A I T : Type 0} (old new : Office S K D C A I T) : Type 0 where
  pub sink : new.wire.sink ≡ old.wire.sink
  pub dial : new.dial ≡ old.dial
  pub inbox : new.inbox ≡ old.inbox

-- the slaves were asked in their turns, and what came of each is told
abbrev pub IsSent : {S K D C A I T : Type 0} → Seeing S K D C A I T → StartedJob → Found → Status
    → (old new : Office S K D C A I T) → Type 0
IsSent seen started found status old new =
    TakesPushTurns (dial_seen seen) started.job.turns (begun started found old.dial) (outcome_of status new.dial)
    (mail_seen seen old) (mail_seen seen new)

-- By the number of slaves: where there is none, nothing is asked or told, and all is done; where there are too many,
-- that is told; all others are asked.
abbrev pub PushesTo : {S K D C A I T : Type 0} → Seeing S K D C A I T → StartedJob → Found → Status
    → (old new : Office S K D C A I T) → Type 0
PushesTo seen started found status old new =
    ((slaves_in started.job found ≡ []) × (status ≡ Done) × IsUnsent old new)
    ⊎ (((slaves_max < length (slaves_in started.job found)) × (status ≡ Rows (slaves_max + 1) rows_rule)
    × IsUnsent old new)
    ⊎ ((0 < length (slaves_in started.job found)) × (length (slaves_in started.job found) ≤ slaves_max)
    × IsSent seen started found status old new))

-- What is done with what was found: it is pushed, or memory runs out, or the reason why not is told.
abbrev pub Pushes : {S K D C A I T : Type 0} → Seeing S K D C A I T → StartedJob → Result Found PushStop → Status
    → (old new : Office S K D C A I T) → Type 0
Pushes seen started (Ok found) status old new =
    PushesTo seen started found status old new ⊎ ((status ≡ NoMemory) × IsUnsent old new)
Pushes seen started (Err stop) status old new =
    (StopsPush started.job.store stop status ⊎ (status ≡ NoMemory)) × IsUnsent old new

-- the statuses with which `push` may end
abbrev pub push_may_end : Status → Bool
push_may_end Done = true
push_may_end No = true
push_may_end WriteFault = true
push_may_end NoMemory = true
push_may_end InboxFault = true
push_may_end (Damaged map at rule) = true
push_may_end (NoVersion map) = true
push_may_end (DiskFault map) = true
push_may_end (Rows row rule) = true
push_may_end _ = false

-- A version of the map stands, and one of the servers that names no more slaves than a push may have.
pub record CanPush (job : Job) (file servers : Stands) : Type 0 where
  pub version : MapVersion
  pub named : MapVersion
  pub is_stored : file ≡ Stored version
  pub is_named : servers ≡ Stored named
  pub few : length (slaves_of job.name job.hosts named.rows) ≤ slaves_max

-- what the disk of the map tells, and that of the servers, which may be the same
abbrev pub store_history : {S K D C A I T : Type 0} → Seeing S K D C A I T → Office S K D C A I T → Option History
store_history seen office = told_at seen.disk.history 0 office.disks.items

abbrev pub servers_place : Name → ℕ
servers_place store = if is_ypservers store then 0 else 1

abbrev pub servers_history : {S K D C A I T : Type 0} → Seeing S K D C A I T → Name → Office S K D C A I T
    → Option History
servers_history seen store office = told_at seen.disk.history (servers_place store) office.disks.items

-- the disk at this place failed
abbrev pub FailsAt : {S K D C A I T : Type 0} → Seeing S K D C A I T → ℕ → (old new : Office S K D C A I T) → Type 0
FailsAt seen place old new =
    HasRisen (faults_at seen.disk.faults place old.disks.items) (faults_at seen.disk.faults place new.disks.items)

-- The disk of a map of this name failed: of the map that is pushed, or of the servers.
abbrev pub OwnDiskFails : {S K D C A I T : Type 0} → Seeing S K D C A I T → (store map : Name)
    → (old new : Office S K D C A I T) → Type 0
OwnDiskFails seen store map old new =
    ((map ≡ store) × FailsAt seen 0 old new) ⊎ ((map ≡ ypservers_of store) × FailsAt seen 1 old new)

-- A fault that is told has its cause.
pub record HasPushCauses {S K D C A I T : Type 0} (seen : Seeing S K D C A I T) (store : Name) (status : Status)
    (old new : Office S K D C A I T) : Type 0 where
  pub write_fault : status ≡ WriteFault → WriteFails seen old new
  pub inbox_fault : status ≡ InboxFault → InboxFails seen old new
  pub disk_fault : (map : MapName) → status ≡ DiskFault map → OwnDiskFails seen store (name_view map) old new

-- the slaves were told of, or memory ran out
abbrev pub PushIsComplete : Status → Type 0
PushIsComplete status = (status ≡ Done) ⊎ ((status ≡ No) ⊎ (status ≡ NoMemory))

-- What `push` does: the files of its map and of the domain's servers are read, the slaves are asked in their turns, and
-- what came of each is told; or the first reason why not is. To the disks nothing is written. Where nothing is in the
-- way and nothing fails, what came of the slaves is told. The files fix what was loaded, unless a disk failed or memory
-- ran out.
pub record PushDoes {S K D C A I T : Type 0} (seen : Seeing S K D C A I T) (job : Job) (status : Status)
    (old new : Office S K D C A I T) : Type 0 where
  pub loaded : LoadedFiles
  pub loads : LoadsMaps seen.disk.history seen.disk.faults job.store loaded old.disks.items new.disks.items
  pub now : ℕ
  pub is_now : IfSome (moment seen old) (λ moment. now ≡ moment)
  pub pushes : Pushes seen (started_at job now) (judged loaded.file loaded.servers) status old new
  pub complete : IfSome (store_history seen old) (λ h. IfSome (servers_history seen job.store old) (λ s.
      CanPush job (stands h.state.reads) (stands s.state.reads)
      → ¬ DiskFails seen old new → ¬ InboxFails seen old new → ¬ WriteFails seen old new → PushIsComplete status))
  pub causes : HasPushCauses seen job.store status old new
  pub told : moment seen new ≡ moment seen old
  pub stays : new ≡ record old {
    wire = record old.wire { sink = new.wire.sink };
    disks = new.disks;
    clock = new.clock;
    dial = new.dial;
    inbox = new.inbox;
  }
