-- What `run` does is what the headline says, command by command.
use Rattle.std.specs.Prelude.{◌≡◌, ◌≢◌, ◌≤◌, ℕ, true, List}
use Rattle.std.specs.Prelude.{[], ◌∷◌, ◌++◌, length, map, Option, Some, None, Ok, ⊤}
use Rattle.yp_io.specs.Disk.{History}
use Rattle.yp_io.specs.Dials.{Connected, Wires}
use Rattle.yp_io.specs.Inboxes.{InboxEvent}
use Rattle.yp_version.specs.Versions.{MapVersion}
use Rattle.yp_map_file.specs.Stands.{stands}
use Rattle.yp_publisher.specs.Standing.{stands_for}
use Rattle.yp_publisher.specs.Grown.{AreTold}
use Rattle.yp_texts.specs.declared.kind.Kind.{Kind}
use Rattle.yp_texts.specs.declared.reading.Reading.TheVariants.{Text, Rows}
use Rattle.yp_command_serve.specs.Served.{Witnessed}
use Rattle.yp_command_serve.specs.serve.Hosting.{OutsideTells}
use Rattle.yp_command.specs.Forms.{kind_of}
use Rattle.yp_command.specs.Words.{Meaning, Once, Session, Serve, Build, Load, Xfr, Walk, Revnet}
use Rattle.yp_command.specs.declared.office.status.Status.{Status}
use Rattle.yp_command.specs.declared.office.status.Status.TheVariants.{NoMemory}
use Rattle.yp_command.specs.office.Disks.{names_of, disks_of}
use Rattle.yp_command.specs.office.Seeing.{Seeing, input, output, history, moment}
use Rattle.yp_command_serve.specs.Once.{once_maps, rows_fault}
use Rattle.yp_command_serve.specs.Session.{service, connection}
use Rattle.yp_command_serve.specs.serve.Serve.{serve_job_of}
use Rattle.yp_command_maps.specs.Build.{job_of, tells_stored}
use Rattle.yp_command_maps.specs.Revnet.{store_history, netgroup_history}
use Rattle.yp_command_maps.specs.Xfr.{dialing}
use Rattle.yp_command_mail.specs.Telling.{box}
use Rattle.yp_program.specs.Commands.{Does}
use Rattle.yp_headline.specs.Publishing.{IsAmong}
use Rattle.yp_headline.specs.Headline.{Replies}
use Rattle.yp_headline.specs.inside.Files.{dialed_of, walked_of, textless_run, file_world}
use Rattle.yp_headline.specs.inside.Worlds.{once_world, connection_of, session_world, was_served}
use Rattle.yp_headline.specs.inside.Laws.{WorldHolds, FileHolds, FileCrashes, BuildHolds}
use Rattle.yp_headline.specs.inside.Server.{ServerEvents, may_lose, AllTell, serve_world, ServerHolds, was_hosted}

-- What is so of each command, where what it reaches tells its bytes, and its files aren't damaged.
abbrev pub CommandHolds : {S K D C A I T : Type 0} → Seeing S K D C A I T → Meaning → Status
    → (old new : OutsideTells S K D C A I T) → Type 0
CommandHolds seen (Once store rows) status old new =
    rows_fault rows ≡ None → status ≢ NoMemory
    → (came taken sent : List ℕ) → input seen old.office ≡ Some came → output seen old.office ≡ Some taken
    → output seen new.office ≡ Some (taken ++ sent)
    → Replies (once_world store rows status came sent) (once_maps store rows).log (once_maps store rows).log
CommandHolds seen (Session own peer stores hosts) status old new =
    was_served status ≡ true → names_of old.office.disks.items ≡ stores
    → (came taken sent : List ℕ) → input seen old.office ≡ Some came → output seen old.office ≡ Some taken
    → output seen new.office ≡ Some (taken ++ sent)
    → AreTold seen.disk.history (disks_of old.office.disks.items)
    → AreTold seen.disk.history (disks_of new.office.disks.items)
    → (first last : Wires) (wires : List Connected) → seen.dial.past old.office.dial ≡ Some first
    → seen.dial.past new.office.dial ≡ Some last
    → length first.back ≤ length first.came → last.came ≡ first.came ++ wires
    → ((wire : Connected) → IsAmong wires wire → (stream : List ℕ) × (wire.input ≡ Some stream))
    → WorldHolds (session_world (service seen own peer stores) (connection seen hosts old.office)
    (connection seen hosts new.office) (connection_of peer status came sent) wires)
CommandHolds seen (Xfr name force store host flag) status old new =
    (h h' : History) → history seen old.office ≡ Some h → history seen new.office ≡ Some h'
    → (held : Option MapVersion) → stands h.state.reads ≡ stands_for held
    → (first last : Wires) (wires : List Connected) → (dialing seen old.office).past ≡ Some first
    → (dialing seen new.office).past ≡ Some last
    → length first.back ≤ length first.came → last.came ≡ first.came ++ wires
    → ((wire : Connected) → IsAmong wires wire → (stream : List ℕ) × (wire.input ≡ Some stream))
    → FileHolds (file_world (textless_run name store (map dialed_of wires) h h') (tells_stored status)) held
CommandHolds seen (Walk name force store host port turns flag) status old new =
    (h h' : History) → history seen old.office ≡ Some h → history seen new.office ≡ Some h'
    → (held : Option MapVersion) → stands h.state.reads ≡ stands_for held
    → (told events : List InboxEvent) → (box seen old.office).past ≡ Some told
    → (box seen new.office).past ≡ Some (told ++ events)
    → FileHolds (file_world (textless_run name store (walked_of host.1 events ∷ []) h h') (tells_stored status)) held
CommandHolds seen (Build name store flag) status old new =
    (kind : Kind) → kind_of store ≡ Some kind
    → BuildHolds seen (job_of name store (Text kind) flag) status old.office new.office
CommandHolds seen (Load name store flag) status old new =
    BuildHolds seen (job_of name store Rows flag) status old.office new.office
CommandHolds seen (Revnet name store) status old new =
    (h h' n : History) (now : ℕ) → store_history seen old.office ≡ Some h → store_history seen new.office ≡ Some h'
    → netgroup_history seen old.office ≡ Some n → moment seen old.office ≡ Some now
    → (held : Option MapVersion) → stands h.state.reads ≡ stands_for held
    → FileCrashes (file_world (textless_run name store [] h h') (tells_stored status)) held
CommandHolds seen (Serve own port workers connections turns stores hosts log) status old new =
    was_hosted status ≡ true
    → (events : ServerEvents) (tell : AllTell seen old new events)
    → ServerHolds (serve_world (serve_job_of own connections turns stores hosts log) tell) (may_lose status) events
CommandHolds seen _ status old new = ⊤

-- What `run` ensures of a command, in its clause `does`, is that.
abbrev pub RunHolds : {S K D C A I T : Type 0} → Seeing S K D C A I T → Type 0
RunHolds {S} {K} {D} {C} {A} {I} {T} seen =
    (meaning : Meaning) (status : Status) (old new : Witnessed (OutsideTells S K D C A I T)) (logged : List ℕ)
    → Does seen (Ok meaning) status old new logged → CommandHolds seen meaning status old.reached new.reached
