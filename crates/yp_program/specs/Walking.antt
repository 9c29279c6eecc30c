-- What `walk` does, and what its source showed.
use Rattle.std.specs.Prelude.{◌≡◌, ◌⊎◌, ℕ, ◌+◌, List, ◌++◌, length, Some, None, Ok, IsTrue}
use Rattle.yp_io.specs.declared.stream.Peer.{Peer}
use Rattle.yp_io.specs.Inboxes.{InboxEvent}
use Rattle.yp_version.specs.Rows.{listed}
use Rattle.yp_version.specs.Versions.{MapVersion, unmarked}
use Rattle.yp_version.specs.Drafts.{Draft}
use Rattle.yp_board.specs.Catalogues.{Catalogue}
use Rattle.yp_board.specs.Logs.{Log}
use Rattle.yp_board.specs.Views.{IsFront}
use Rattle.yp_answer.specs.Served.{maps_on}
use Rattle.yp_transfer.specs.declared.fault.XfrFault.TheVariants.{Skew}
use Rattle.yp_end_to_end.specs.transfer.Replies.{IsShown}
use Rattle.yp_transfer.specs.walk.Standings.{HasEnded}
use Rattle.yp_transfer.specs.walk.Schedules.{awaited, walk_by}
use Rattle.yp_transfer.specs.Fetching.{Wanted}
use Rattle.yp_end_to_end.specs.walk.Laws.{DeliveredWalk, AnswersWalk, IsWalkedOf, IsSkewOf, IsWalkable}
use Rattle.yp_command.specs.declared.office.office.Office.{Office}
use Rattle.yp_command.specs.declared.office.status.Status.{Status}
use Rattle.yp_command.specs.declared.office.status.Status.TheVariants.{Done, NoMemory, Xfr}
use Rattle.yp_command.specs.office.Seeing.{Seeing, history, WriteFails, DiskFails, InboxFails}
use Rattle.yp_command_maps.specs.Build.{tells_stored}
use Rattle.yp_command_maps.specs.Xfr.{Job, FileVersion, wanted, against}
use Rattle.yp_command_mail.specs.Telling.{box}
use Rattle.yp_command_maps.specs.walk.Turns.{heard_of}
use Rattle.yp_command_maps.specs.walk.Walk.{WalkDoes}
use Rattle.yp_program.specs.Transferring.{TransferIsStored, IsToldHeld}

-- An inbox tells what happened at it before and after, and this happened meanwhile.
pub record Happened {S K D C A I T : Type 0} (seen : Seeing S K D C A I T) (events : List InboxEvent)
    (old new : Office S K D C A I T) : Type 0 where
  pub told : List InboxEvent
  pub before : (box seen old).past ≡ Some told
  pub after : (box seen new).past ≡ Some (told ++ events)

-- the walk of a job by this caller, and the mails of what happened at its inbox
abbrev pub walk_of : Peer → Job → Wanted → List InboxEvent → DeliveredWalk
walk_of caller job asked events =
    record { caller = caller; source = job.host.1; wanted = asked; deliveries = heard_of events }

-- What `walk` does. Where the mails that arrived were delivered in any schedule while a source whose log rises
-- answered, and a version is told as stored, it is the one that the source showed from the first awaited mail to the
-- last; and where two orders are told, the source showed both. Where the mails say a version against which nothing
-- stands, and nothing fails, it is stored and told; and so it is where a source shows one throughout, and of the mails
-- one for each of its rows and four more were awaited.
pub record WalkingDoes {S K D C A I T : Type 0} (seen : Seeing S K D C A I T) (job : Job) (turns : ℕ)
    (status : Status) (old new : Office S K D C A I T) : Type 0 where
  pub does : WalkDoes seen job turns status old new
  pub of_source : (catalogue : Catalogue) (caller : Peer) (events : List InboxEvent) (held : FileVersion)
      → IsToldHeld (history seen old) held → Happened seen events old new
      → (answers : AnswersWalk catalogue (walk_of caller job (wanted job held) events))
      → IsTrue (tells_stored status)
      → TransferIsStored (λ asked version. IsWalkedOf catalogue (walk_of caller job asked events) answers.log
      answers.last.front version) job (history seen old) (history seen new)
  pub skews : (catalogue : Catalogue) (caller : Peer) (events : List InboxEvent) (held : FileVersion) (first second : ℕ)
      → IsToldHeld (history seen old) held → Happened seen events old new
      → (answers : AnswersWalk catalogue (walk_of caller job (wanted job held) events))
      → status ≡ Xfr (Skew first second)
      → IsSkewOf catalogue (walk_of caller job (wanted job held) events) answers.log answers.last.front first second
  pub complete : (events : List InboxEvent) (held : FileVersion) (draft : Draft)
      → IsToldHeld (history seen old) held → Happened seen events old new
      → (walk_by job.host.1 (wanted job held) (heard_of events)).standing ≡ HasEnded (Ok draft)
      → against job held (unmarked draft.order draft.master (listed draft.rows)) ≡ None
      → ¬ InboxFails seen old new → ¬ DiskFails seen old new → ¬ WriteFails seen old new
      → (status ≡ Done) ⊎ (status ≡ NoMemory)
  pub complete_of_source : (catalogue : Catalogue) (caller : Peer) (events : List InboxEvent) (held : FileVersion)
      (version : MapVersion) → IsToldHeld (history seen old) held → Happened seen events old new
      → (answers : AnswersWalk catalogue (walk_of caller job (wanted job held) events))
      → IsWalkable caller (wanted job held) version
      → ((front : Log) → IsFront answers.log front → IsFront front answers.last.front
      → IsShown (wanted job held) version (maps_on catalogue front))
      → length (awaited job.host.1 1 (heard_of events)) ≡ length version.rows + 4
      → against job held (unmarked version.order version.master (listed version.rows)) ≡ None
      → ¬ InboxFails seen old new → ¬ DiskFails seen old new → ¬ WriteFails seen old new
      → (status ≡ Done) ⊎ (status ≡ NoMemory)
