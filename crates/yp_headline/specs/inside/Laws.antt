-- What each command does is what the headline says of its world.
use Rattle.std.specs.Prelude.{◌≡◌, ◌≢◌, ◌≤◌, ℕ, List, [], ◌∷◌, ◌++◌, length, map, true, Option, Some, None}
use Rattle.yp_io.specs.Disk.{History}
use Rattle.yp_io.specs.Dials.{Connected, Wires}
use Rattle.yp_io.specs.Inboxes.{InboxEvent}
use Rattle.yp_version.specs.Rows.{Row}
use Rattle.yp_version.specs.Versions.{MapVersion}
use Rattle.yp_map_file.specs.Stands.{stands}
use Rattle.yp_board.specs.Catalogues.{Name}
use Rattle.yp_board.specs.Logs.{Log}
use Rattle.yp_publisher.specs.Standing.{stands_for}
use Rattle.yp_command.specs.declared.office.office.Office.{Office}
use Rattle.yp_command.specs.declared.office.status.Status.{Status}
use Rattle.yp_command.specs.declared.office.status.Status.TheVariants.{NoMemory}
use Rattle.yp_command.specs.office.Seeing.{Seeing, input, output, history, moment}
use Rattle.yp_command_serve.specs.Once.{OnceDoes, once_maps, rows_fault}
use Rattle.yp_command_maps.specs.Build.{tells_stored, JobDoes}
use Rattle.yp_command_maps.specs.Build.{Job as BuildJob}
use Rattle.yp_command_maps.specs.Revnet.{RevnetDoes, store_history, netgroup_history}
use Rattle.yp_command_maps.specs.Xfr.{Job, dialing}
use Rattle.yp_command_mail.specs.Telling.{box}
use Rattle.yp_program.specs.Transferring.{TransferDoes}
use Rattle.yp_program.specs.Walking.{WalkingDoes}
use Rattle.yp_publisher.specs.Grown.{AreTold}
use Rattle.yp_command.specs.office.Disks.{names_of, disks_of}
use Rattle.yp_command_serve.specs.Served.{Witnessed}
use Rattle.yp_command_serve.specs.Session.{SessionDoes, service, connection}
use Rattle.yp_command_serve.specs.Session.{Job as SessionJob}
use Rattle.yp_headline.specs.World.{World}
use Rattle.yp_headline.specs.Publishing.{IsAmong}
use Rattle.yp_headline.specs.Headline.{Replies, Crashes, Transfers}
use Rattle.yp_headline.specs.inside.Files.{dialed_of, walked_of, FileRun, textless_run, file_world, file_log}
use Rattle.yp_headline.specs.inside.Worlds.{once_world, connection_of, session_world, was_served}

-- An input that is told is a connection that `once` served, on the one version of its words.
abbrev pub OnceReplies : {S K D C A I T : Type 0} → Seeing S K D C A I T → Type 0
OnceReplies {S} {K} {D} {C} {A} {I} {T} seen =
    (store : Name) (rows : List Row) (status : Status) (old new : Witnessed (Office S K D C A I T))
    → OnceDoes seen store rows status old new → rows_fault rows ≡ None → status ≢ NoMemory
    → (came taken sent : List ℕ) → input seen old.reached ≡ Some came → output seen old.reached ≡ Some taken
    → output seen new.reached ≡ Some (taken ++ sent)
    → Replies (once_world store rows status came sent) (once_maps store rows).log (once_maps store rows).log

-- ---- one file

-- a log of which the headline holds
pub record FileHolds (world : World) (held : Option MapVersion) : Type 0 where
  pub log : Log
  pub crashes : Crashes world (file_log held) log
  pub transfers : Transfers world (file_log held) log

-- What `xfr` does to a file that isn't damaged, where its disk and its dial tell.
abbrev pub XfrHolds : {S K D C A I T : Type 0} → Seeing S K D C A I T → Type 0
XfrHolds {S} {K} {D} {C} {A} {I} {T} seen =
    (job : Job) (status : Status) (old new : Office S K D C A I T) → TransferDoes seen job status old new
    → (h h' : History) → history seen old ≡ Some h → history seen new ≡ Some h'
    → (held : Option MapVersion) → stands h.state.reads ≡ stands_for held
    → (first last : Wires) (wires : List Connected) → (dialing seen old).past ≡ Some first
    → (dialing seen new).past ≡ Some last
    → length first.back ≤ length first.came → last.came ≡ first.came ++ wires
    → ((wire : Connected) → IsAmong wires wire → (stream : List ℕ) × (wire.input ≡ Some stream))
    → FileHolds (file_world (textless_run job.name job.store (map dialed_of wires) h h') (tells_stored status)) held

-- What `walk` does to a file that isn't damaged, where its disk and its inbox tell.
abbrev pub WalkHolds : {S K D C A I T : Type 0} → Seeing S K D C A I T → Type 0
WalkHolds {S} {K} {D} {C} {A} {I} {T} seen =
    (job : Job) (turns : ℕ) (status : Status) (old new : Office S K D C A I T)
    → WalkingDoes seen job turns status old new
    → (h h' : History) → history seen old ≡ Some h → history seen new ≡ Some h'
    → (held : Option MapVersion) → stands h.state.reads ≡ stands_for held
    → (told events : List InboxEvent) → (box seen old).past ≡ Some told → (box seen new).past ≡ Some (told ++ events)
    → FileHolds (file_world (textless_run job.name job.store (walked_of job.host.1 events ∷ []) h h')
    (tells_stored status)) held

-- ---- session

-- logs of which the headline holds
pub record WorldHolds (world : World) : Type 0 where
  pub begun : Log
  pub log : Log
  pub replies : Replies world begun log
  pub crashes : Crashes world begun log
  pub transfers : Transfers world begun log

-- What `session` does, where it serves its connection, and its disks, its dial and its wire tell.
abbrev pub SessionHolds : {S K D C A I T : Type 0} → Seeing S K D C A I T → Type 0
SessionHolds {S} {K} {D} {C} {A} {I} {T} seen =
    (job : SessionJob) (status : Status) (old new : Witnessed (Office S K D C A I T))
    → SessionDoes seen job status old new → was_served status ≡ true → names_of old.reached.disks.items ≡ job.stores
    → (came taken sent : List ℕ) → input seen old.reached ≡ Some came → output seen old.reached ≡ Some taken
    → output seen new.reached ≡ Some (taken ++ sent)
    → AreTold seen.disk.history (disks_of old.reached.disks.items)
    → AreTold seen.disk.history (disks_of new.reached.disks.items)
    → (first last : Wires) (wires : List Connected) → seen.dial.past old.reached.dial ≡ Some first
    → seen.dial.past new.reached.dial ≡ Some last
    → length first.back ≤ length first.came → last.came ≡ first.came ++ wires
    → ((wire : Connected) → IsAmong wires wire → (stream : List ℕ) × (wire.input ≡ Some stream))
    → WorldHolds (session_world (service seen job.own job.peer job.stores)
    (connection seen job.hosts old.reached) (connection seen job.hosts new.reached)
    (connection_of job.peer status came sent) wires)

-- ---- build and load

-- a log of which the headline holds, of a command that fetches nothing
pub record FileCrashes (world : World) (held : Option MapVersion) : Type 0 where
  pub log : Log
  pub crashes : Crashes world (file_log held) log

-- a run of such a command, which reads this text
abbrev pub build_run : BuildJob → (text : List ℕ) → (old new : History) → FileRun
build_run job text old new = record {
  own = job.name;
  name = job.store;
  text = λ name. Some text;
  reading = λ name. job.reading;
  dialed = [];
  old = old;
  new = new;
}

-- a text is read so, and its version stored
abbrev pub BuildHolds : {S K D C A I T : Type 0} → Seeing S K D C A I T → BuildJob → Status
    → (old new : Office S K D C A I T) → Type 0
BuildHolds seen job status old new =
    (text : List ℕ) (h h' : History) (now : ℕ) → input seen old ≡ Some text → history seen old ≡ Some h
    → history seen new ≡ Some h' → moment seen old ≡ Some now
    → (held : Option MapVersion) → stands h.state.reads ≡ stands_for held
    → FileCrashes (file_world (build_run job text h h') (tells_stored status)) held

-- What `build` and `load` do to a file that isn't damaged, where their input, their disk and their clock tell.
abbrev pub JobHolds : {S K D C A I T : Type 0} → Seeing S K D C A I T → Type 0
JobHolds {S} {K} {D} {C} {A} {I} {T} seen =
    (job : BuildJob) (status : Status) (old new : Office S K D C A I T) → JobDoes seen job status old new
    → BuildHolds seen job status old new

-- ---- revnet

-- What `revnet` does to a file that isn't damaged, where its disks and its clock tell.
abbrev pub RevnetHolds : {S K D C A I T : Type 0} → Seeing S K D C A I T → Type 0
RevnetHolds {S} {K} {D} {C} {A} {I} {T} seen =
    (name : List ℕ) (store : Name) (status : Status) (old new : Office S K D C A I T)
    → RevnetDoes seen name store status old new
    → (h h' n : History) (now : ℕ) → store_history seen old ≡ Some h → store_history seen new ≡ Some h'
    → netgroup_history seen old ≡ Some n → moment seen old ≡ Some now
    → (held : Option MapVersion) → stands h.state.reads ≡ stands_for held
    → FileCrashes (file_world (textless_run name store [] h h') (tells_stored status)) held
