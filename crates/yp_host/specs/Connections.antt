-- One connection over stored maps: the host that it starts with, the one that it ends with, and what a crash leaves at
-- each moment between.
use Rattle.std.specs.Prelude.{◌≡◌, ◌⊎◌, ℕ, List, [], ◌∷◌, map, Contains, None, Some, Ok, IsSome, IsTrue}
use Rattle.std.specs.List.{AllZip}
use Rattle.yp_io.specs.Counts.{next_count}
use Rattle.yp_io.specs.declared.stream.Peer.{Peer}
use Rattle.yp_version.specs.Versions.{MapVersion}
use Rattle.yp_board.specs.Catalogues.{Catalogue}
use Rattle.yp_board.specs.Logs.{Log, shown, starts}
use Rattle.yp_board.specs.Views.{IsFront}
use Rattle.yp_answer.specs.declared.procedure.Path.TheVariants.{Stream}
use Rattle.yp_answer.specs.Maps.{Maps}
use Rattle.yp_answer.specs.Served.{AreServed, maps_on}
use Rattle.yp_answer.specs.Transfer.{Taken}
use Rattle.yp_answer.specs.Reply.{Response, Open, reply}
use Rattle.yp_answer.specs.declared.make.MakeJob.{MakeJob}
use Rattle.yp_publisher.specs.Standing.{IsStanding, OfMap, Shows, versions}
use Rattle.yp_publisher.specs.Opens.{IsOpened}
use Rattle.yp_publisher.specs.Rising.{IsRisingLog}
use Rattle.yp_publisher.specs.Grown.{Making, GrowsBy, IsShownOrMade, LeavesByFronts, OrAsBefore, IsBehindMade, AtDisk}
use Rattle.yp_publisher.specs.Grown.{AreTold}
use Rattle.yp_transfer.specs.HostTable.{HostList}
use Rattle.yp_transfer.specs.Installing.{marking}
use Rattle.yp_answer.specs.session.Progress.{Progress, begun}
use Rattle.yp_answer.specs.session.Hosts.{Conduct, Turn, conduct_of}
use Rattle.yp_answer.specs.session.Runs.{Dialogue, dialogue_at, Runs}
use Rattle.yp_answer.specs.session.Wires.{Wire}
use Rattle.yp_answer.specs.declared.session.session.End.{End}
use Rattle.yp_answer.specs.declared.session.session.TheConstants.{CALLS_MAX}
use Rattle.yp_publisher.specs.Keeping.{Keeping}
use Rattle.yp_host.specs.Locals.{Local, Telling, seen_of}
use Rattle.yp_answer.specs.Causes.{Told, IsAnew, task_of}
use Rattle.yp_host.specs.Making.{MapIsMade}
use Rattle.yp_host.specs.Transferring.{MapIsTransferred}

-- what a connection is served by, and to whom: what its disks and its board tell, what its texts and its clock tell,
-- the maps, and the caller
pub record Service (D B E : Type 0) : Type 0 where
  pub keeping : Keeping D B
  pub telling : Telling E
  pub catalogue : Catalogue
  pub peer : Peer

abbrev pub service_of : {D B E : Type 0} → Keeping D B → Telling E → Catalogue → Peer → Service D B E
service_of keeping telling catalogue peer =
    record { keeping = keeping; telling = telling; catalogue = catalogue; peer = peer }

-- a connection at a moment: what its wire tells, its disks in the order of the maps, and its desk
pub record Connection (D E : Type 0) : Type 0 where
  pub wire : Wire
  pub disks : List D
  pub desk : E

-- what a host over stored maps tells and does: a read step counts, the making of a map is `MapIsMade`, and the
-- carrying out of a transfer is `MapIsTransferred`
abbrev pub local_conduct : {D B E : Type 0} → Keeping D B → Telling E → Conduct (Local D B E)
local_conduct keeping telling =
    conduct_of (seen_of keeping.log) (λ host. telling.told host.desk)
    (λ host. record { files = host.files; transfers = host.transfers })
    (λ old new. new ≡ record old { asked = next_count old.asked }) (MapIsMade keeping telling)
    (MapIsTransferred keeping telling)

-- what was shown on the board of a host
abbrev pub log_of : {D B E : Type 0} → Service D B E → Local D B E → Log
log_of service host = service.keeping.log host.published.board

-- ---- its first and its last host

-- The host that it starts with: each map is level with what its disk stood for, and exactly that is shown.
pub record IsFirstHost {D B E : Type 0} (service : Service D B E) (old : Connection D E) (start : Local D B E)
    : Type 0 where
  pub catalogue : start.published.catalogue ≡ service.catalogue
  pub opened : AllZip (IsOpened service.keeping.history service.keeping.faults) old.disks start.published.maps
  pub log : log_of service start ≡ starts 0 (versions start.published.maps)
  pub begun : start
      ≡ record { published = start.published; desk = old.desk; asked = 0; files = 0; transfers = 0 }

-- The host that it ends with, of which the disks and the desk are handed back: what is shown of each map agrees with
-- what a crash may leave of its disk now.
pub record IsLastHost {D B E : Type 0} (service : Service D B E) (finish : Local D B E) (new : Connection D E)
    : Type 0 where
  pub disks : new.disks ≡ map (λ kept. kept.disk) finish.published.maps
  pub desk : new.desk ≡ finish.desk
  pub shows : Shows (log_of service finish) (versions finish.published.maps)
  pub standing : (number : ℕ) → OfMap number finish.published.maps (IsStanding service.keeping.history)

-- ---- versions that were made or fetched

-- One of these records got this response, on maps of the catalogue.
pub record GotResponse {D B E : Type 0} (service : Service D B E) (turns : List Turn) (turn : Turn)
    (response : Response) : Type 0 where
  pub among : Contains turns turn
  pub maps : Maps
  pub of_catalogue : maps.catalogue ≡ service.catalogue
  pub gets : reply Stream maps service.peer turn.message ≡ response

-- One of these records was a call that may have this map made, and its reply was left open.
abbrev pub IsCalledFor : {D B E : Type 0} → Service D B E → List Turn → MakeJob → Type 0
IsCalledFor service turns job = (turn : Turn) × (xid : ℕ) × GotResponse service turns turn (Open xid job)

-- A version was made of a map behind a log: one of these records called for this map, and the version was made, of
-- what the desk tells or of the netgroups that a front of the log shows, for what the log shows of the map.
pub record WasMade {D B E : Type 0} (service : Service D B E) (turns : List Turn) (told : Told)
    (number : ℕ) (log : Log) (version : MapVersion) : Type 0 where
  pub job : MakeJob
  pub of_map : job.map ≡ number
  pub called : IsCalledFor service turns job
  pub at : Log
  pub front : IsFront at log
  pub anew : IsAnew told (task_of service.catalogue job at (shown number log)) version

-- a record of a run: the host before it and the one behind it, and what came of it
pub record Transition (H : Type 0) : Type 0 where
  pub before : H
  pub turn : Turn
  pub after : H

abbrev pub transition_of : {H : Type 0} → H → Turn → H → Transition H
transition_of before turn after = record { before = before; turn = turn; after = after }

-- the records that were answered, one after the other, from this dialogue on
abbrev pub transitions_of : {H : Type 0} → Dialogue H → List (Turn × Dialogue H) → List (Transition H)
transitions_of old [] = []
transitions_of old (one ∷ later) = transition_of old.host one.0 one.1.host ∷ transitions_of one.1 later

-- A record took this transfer, its reply was flushed, and behind it the transfer was carried out: the wire of the dial
-- that came for it then, to its source, which has one of these addresses, gave this version.
--
-- The host between is the one before the record, but for how often it was asked; what was carried out is fixed by what
-- its dial tells before and behind.
pub record GaveVersion {D B E : Type 0} (service : Service D B E) (hosts : HostList) (taken : Taken)
    (version : MapVersion) (transition : Transition (Local D B E)) : Type 0 where
  pub took : transition.turn.taken ≡ Some taken
  pub flushed : IsTrue transition.turn.flushed
  pub middle : Local D B E
  pub middle_is : middle ≡ record transition.before { asked = middle.asked }
  pub hosts_are : service.telling.hosts middle.desk ≡ hosts
  pub carried : MapIsTransferred service.keeping service.telling taken service.peer middle transition.after
  pub gave : carried.transfers.transfers.outcome ≡ Ok version

-- A version was fetched of a map behind a log: by the transfer of this map that one of these records took. It is marked
-- as what the log shows.
pub record WasFetched {D B E : Type 0} (service : Service D B E) (transitions : List (Transition (Local D B E)))
    (hosts : HostList) (number : ℕ) (log : Log) (version : MapVersion) : Type 0 where
  pub taken : Taken
  pub of_map : taken.map ≡ number
  pub transition : Transition (Local D B E)
  pub among : Contains transitions transition
  pub fetched : MapVersion
  pub gave : GaveVersion service hosts taken fetched transition
  pub marked : version ≡ record fetched { secure = marking None (shown number log) }

abbrev pub IsGiven : {D B E : Type 0} → Service D B E → List Turn → List (Transition (Local D B E)) → Told → HostList
    → Making
IsGiven service turns transitions told hosts number log version =
    WasMade service turns told number log version ⊎ WasFetched service transitions hosts number log version

-- what was made in a connection for one of the records that came to this, or fetched behind one of those that were
-- answered, where it began with this host
abbrev pub given_in : {D B E : Type 0} → Service D B E → Connection D E → Local D B E → List Turn
    → List (Turn × Dialogue (Local D B E)) → Making
given_in service old start turns answered =
    IsGiven service turns (transitions_of (dialogue_at start old.wire begun) answered)
    (service.telling.told old.desk) (service.telling.hosts old.desk)

-- ---- the whole

-- A connection was served, and ended so. From its first host to its last the records of its wire were answered in turn,
-- and behind each the wire was one of these. Each moment has a front of the log, which is a front of that of the next
-- moment: a crash leaves then of each map what that front shows of it or what was made or fetched behind it, or, while
-- that is the first log, what it might have left before. Only versions that were made or fetched were shown, and the
-- orders of each map rise. The catalogue and all versions are within their limits. What the first host shows is fixed
-- by the disks before, and the last host is the one that the run leads to.
pub record ServesConnection {D B E : Type 0} (service : Service D B E) (end : End) (old new : Connection D E)
    (wires : List Wire) : Type 0 where
  pub start : Local D B E
  pub finish : Local D B E
  pub progress : Progress
  pub first : IsFirstHost service old start
  pub runs : Runs (local_conduct service.keeping service.telling) service.peer CALLS_MAX end
      (dialogue_at start old.wire begun) (dialogue_at finish new.wire progress) wires
  pub last : IsLastHost service finish new
  pub any_moment : (number : ℕ) → AtDisk number old.disks new.disks (λ before after. LeavesByFronts
      (OrAsBefore (service.keeping.history before) (log_of service start)
      (IsShownOrMade (given_in service old start runs.turns runs.answered) number))
      (service.keeping.history before) (service.keeping.history after) (log_of service start) (log_of service finish))
  pub behind : (number : ℕ) → OfMap number finish.published.maps (λ kept. IsSome (service.keeping.history kept.disk)
      → IsBehindMade (given_in service old start runs.turns runs.answered) number (log_of service finish) kept.standing)
  pub grown : AreTold service.keeping.history old.disks
      → GrowsBy (given_in service old start runs.turns runs.answered) (log_of service start) (log_of service finish)
  pub rises : AreTold service.keeping.history old.disks → IsRisingLog (log_of service finish)
  pub served : AreServed (maps_on service.catalogue (log_of service finish))
