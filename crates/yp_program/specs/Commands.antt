-- What the program does, by its command: one line each.
use Rattle.std.specs.Prelude.{◌≡◌, ◌⊎◌, ℕ, Bool, IsTrue, List, [], ◌++◌, Option, Result, Ok, Err}
use Rattle.std.specs.Io.KnownBytes.{Appends}
use Rattle.yp_io.specs.Counts.{HasRisen}
use Rattle.yp_command.specs.Words.{Meaning, Once, Session, Serve, Check, Dump, Build, Load, Xfr, Walk}
use Rattle.yp_command.specs.Words.{Sample, Push, Bind, Portmap, CallMapper, Ask, Orders, TakesMemory, Revnet}
use Rattle.yp_command.specs.declared.office.office.Office.{Office}
use Rattle.yp_command.specs.declared.office.status.Status.{Status}
use Rattle.yp_command.specs.declared.office.status.Status.TheVariants.{Usage, NoMemory}
use Rattle.yp_command.specs.office.Seeing.{Seeing}
use Rattle.yp_command.specs.office.Status.{note}
use Rattle.yp_command_serve.specs.Once.{OnceDoes, once_may_end}
use Rattle.yp_command_serve.specs.Sample.{SampleDoes, sample_may_end}
use Rattle.yp_command_serve.specs.Served.{Witnessed, witnessed}
use Rattle.yp_command_serve.specs.Session.{SessionDoes, session_job_of, session_may_end}
use Rattle.yp_command_serve.specs.serve.Hosting.{OutsideTells}
use Rattle.yp_command_serve.specs.serve.Serve.{ServeDoes, serve_job_of, serve_may_end}
use Rattle.yp_command_maps.specs.Build.{build_request, BuildDoes, LoadDoes, build_may_end}
use Rattle.yp_command_maps.specs.Check.{CheckDoes, check_may_end}
use Rattle.yp_command_maps.specs.Dump.{DumpDoes, dump_may_end}
use Rattle.yp_command_maps.specs.Revnet.{RevnetDoes, revnet_may_end}
use Rattle.yp_command_maps.specs.Xfr.{xfr_job_of, xfr_may_end}
use Rattle.yp_command_mail.specs.Bind.{bind_job_of, BindDoes, bind_may_end, servers_of}
use Rattle.yp_command_mail.specs.Mapper.{MapperDoes, mapper_may_end, begun}
use Rattle.yp_command_mail.specs.Portmap.{PortmapDoes, portmap_may_end}
use Rattle.yp_command_maps.specs.walk.Walk.{walk_may_end}
use Rattle.yp_command_mail.specs.Push.{PushDoes, job_of, push_may_end}
use Rattle.yp_program.specs.Asking.{AskDoes, ask_may_end}
use Rattle.yp_program.specs.Orders.{OrdersDoes}
use Rattle.yp_program.specs.Transferring.{TransferDoes}
use Rattle.yp_program.specs.Walking.{WalkingDoes}

-- what a command that answers no records does to an office, with this status
abbrev pub OfficeDoes : {S K D C A I T : Type 0} → Seeing S K D C A I T → Meaning → Status
    → (old new : Office S K D C A I T) → Type 0
OfficeDoes seen (Check store) status old new = CheckDoes seen store status old new
OfficeDoes seen (Dump store) status old new = DumpDoes seen store status old new
OfficeDoes seen (Build name store flag) status old new = BuildDoes seen (build_request name store flag) status old new
OfficeDoes seen (Load name store flag) status old new = LoadDoes seen (build_request name store flag) status old new
OfficeDoes seen (Xfr name force store host flag) status old new =
    TransferDoes seen (xfr_job_of name force store host flag) status old new
OfficeDoes seen (Walk name force store host port turns flag) status old new =
    WalkingDoes seen (xfr_job_of name force store host flag) turns status old new
OfficeDoes seen (Revnet name store) status old new = RevnetDoes seen name store status old new
OfficeDoes seen (Sample start count) status old new = SampleDoes seen start count status old new
OfficeDoes seen (Push name port window turns store hosts) status old new =
    PushDoes seen (job_of name port window turns store hosts) status old new
OfficeDoes seen (Bind port policy turns domain hosts) status old new =
    BindDoes seen (bind_job_of turns domain (servers_of hosts) policy) status old new
OfficeDoes seen (Portmap port turns) status old new = PortmapDoes seen turns status old new
OfficeDoes seen (CallMapper port turns peer call) status old new =
    MapperDoes seen turns (begun peer call) status old new
OfficeDoes seen (Ask peer question) status old new = AskDoes seen peer question status old new
OfficeDoes seen (Orders first others domain) status old new =
    OrdersDoes seen (record { first = first; others = others; domain = domain }) status old new
OfficeDoes seen _ status old new = ⊥

-- what a command that serves no listener does to an office, and what a witness then has seen: no more than before,
-- where it answers no records
unfoldable pub AloneDoes : {S K D C A I T : Type 0} → Seeing S K D C A I T → Meaning → Status
    → (old new : Witnessed (Office S K D C A I T)) → Type 0
AloneDoes seen (Once store rows) status old new = OnceDoes seen store rows status old new
AloneDoes seen (Session own peer stores hosts) status old new =
    SessionDoes seen (session_job_of own peer stores hosts) status old new
AloneDoes seen meaning status old new =
    OfficeDoes seen meaning status old.reached new.reached × (new.wires ≡ old.wires)

-- the office alone of all that is reached
abbrev pub in_office : {S K D C A I T : Type 0} → Witnessed (OutsideTells S K D C A I T)
    → Witnessed (Office S K D C A I T)
in_office outside = witnessed outside.reached.office outside.wires

-- what a command does to all that is reached, and what it logs: any but `serve` leaves what is told at the doors as it
-- is, and logs nothing
abbrev pub CommandDoes : {S K D C A I T : Type 0} → Seeing S K D C A I T → Meaning → Status
    → (old new : Witnessed (OutsideTells S K D C A I T)) → (logged : List ℕ) → Type 0
CommandDoes seen (Serve own port workers connections turns stores hosts log) status old new logged =
    ServeDoes seen (serve_job_of own connections turns stores hosts log) status old.reached new.reached logged
    × (new.wires ≡ old.wires)
CommandDoes seen meaning status old new logged =
    AloneDoes seen meaning status (in_office old) (in_office new) × (new.reached.doors ≡ old.reached.doors)
    × (logged ≡ [])

-- memory ran out for what is copied of the words, and nothing has changed
pub record IsForgone {S K D C A I T : Type 0} (meaning : Meaning) (status : Status)
    (old new : Witnessed (OutsideTells S K D C A I T)) (logged : List ℕ) : Type 0 where
  pub takes_memory : TakesMemory meaning
  pub told : status ≡ NoMemory
  pub stays : new ≡ old
  pub unlogged : logged ≡ []

-- what is done for the command that the words are; words that are none are told, and nothing is done
abbrev pub Does : {S K D C A I T : Type 0} → Seeing S K D C A I T → Result Meaning ℕ → Status
    → (old new : Witnessed (OutsideTells S K D C A I T)) → (logged : List ℕ) → Type 0
Does seen (Ok meaning) status old new logged =
    CommandDoes seen meaning status old new logged ⊎ IsForgone meaning status old new logged
Does seen (Err word) status old new logged = (status ≡ Usage word) × (new ≡ old) × (logged ≡ [])

-- what was logged stands in the notes, and behind it the note of the status, unless the notes have failed
abbrev pub IsNoted : (faults faults' : ℕ) → (before after : Option (List ℕ)) → (logged : List ℕ) → Status → Type 0
IsNoted faults faults' before after logged status =
    ¬ HasRisen faults faults' → Appends before after (logged ++ note status)

-- the statuses with which a command may end
unfoldable pub may_end : Meaning → Status → Bool
may_end (Once store rows) status = once_may_end status
may_end (Session own peer stores hosts) status = session_may_end status
may_end (Serve own port workers connections turns stores hosts log) status = serve_may_end status
may_end (Check store) status = check_may_end status
may_end (Dump store) status = dump_may_end status
may_end (Build name store flag) status = build_may_end status
may_end (Load name store flag) status = build_may_end status
may_end (Xfr name force store host flag) status = xfr_may_end status
may_end (Walk name force store host port turns flag) status = walk_may_end status
may_end (Revnet name store) status = revnet_may_end status
may_end (Sample start count) status = sample_may_end status
may_end (Push name port window turns store hosts) status = push_may_end status
may_end (Bind port policy turns domain hosts) status = bind_may_end status
may_end (Portmap port turns) status = portmap_may_end status
may_end (CallMapper port turns peer call) status = mapper_may_end status
may_end (Ask peer question) status = ask_may_end status
may_end (Orders first others domain) status = ask_may_end status

abbrev pub MayEnd : Result Meaning ℕ → Status → Type 0
MayEnd (Ok meaning) status = IsTrue (may_end meaning status)
MayEnd (Err word) status = status ≡ Usage word
