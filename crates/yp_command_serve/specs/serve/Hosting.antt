-- Stored maps that are served to many callers at once.
use Rattle.std.specs.Prelude.{ℕ, List, map, Option}
use Rattle.std.specs.List.{AllZip}
use Rattle.yp_io.specs.Dials.{DialTells}
use Rattle.yp_io.specs.declared.disk.Disk as disk
use Rattle.yp_io.specs.declared.hall.Hall as hall
use Rattle.yp_io.specs.declared.inbox.Inbox as inbox
use Rattle.yp_board.specs.Catalogues.{Catalogue}
use Rattle.yp_board.specs.Logs.{Log, starts}
use Rattle.yp_board.specs.Views.{Seen, IsFront, Refreshes}
use Rattle.yp_publisher.specs.Opens.{IsOpened}
use Rattle.yp_publisher.specs.Standing.{StoredMap, versions}
use Rattle.yp_publisher.specs.Rising.{IsRisingLog, PublisherState}
use Rattle.yp_publisher.specs.Grown.{AreTold}
use Rattle.yp_transfer.specs.HostTable.{HostList}
use Rattle.yp_answer.specs.session.Hosts.{Conduct}
use Rattle.yp_answer.specs.declared.session.session.TheConstants.{CALLS_MAX}
use Rattle.yp_rpc.specs.Turns.{InboxTells, inbox_tells}
use Rattle.yp_publisher.specs.sharing.Failures.{disks_of}
use Rattle.yp_host.specs.workers.Workers.{WorkerState}
use Rattle.yp_host.specs.workers.Makings.{IsBuiltAsNamed}
use Rattle.yp_host.specs.workers.Wires.{CoversOrders, CoversSources}
use Rattle.yp_worker.specs.Receptions.{ListenTells, IsListenerState, opening_by, terms_of}
use Rattle.yp_server.specs.Serving.{conduct_at, mail_service, ServesInboxes, DisksStand}
use Rattle.yp_server.specs.Counting.{CountsAndTells, FilesAreCovered, file_tells, count_told}
use Rattle.yp_server.specs.Counting.{server_terms, endpoint_tells, network_tells, server_end}
use Rattle.yp_server.specs.Origins.{served_maps, ComesFrom, EachComesFrom}
use Rattle.yp_command.specs.declared.office.office.Office.{Office}
use Rattle.yp_command_serve.specs.declared.serve.serve.Doors.{Doors}
use Rattle.yp_command_serve.specs.declared.serve.serve.Outside.{Outside}
use Rattle.yp_command_serve.specs.declared.serve.tally.Hosted.{Hosted}

-- what is served, and of what: the maps, the texts and the hosts that they are made and fetched of, and how many turns
-- there are at the datagrams of each inbox
pub record ServeSetup : Type 0 where
  pub catalogue : Catalogue
  pub text : List ℕ → Option (List ℕ)
  pub hosts : HostList
  pub turns : ℕ

abbrev pub setup_of : Catalogue → (List ℕ → Option (List ℕ)) → HostList → ℕ → ServeSetup
setup_of served text hosts turns = record { catalogue = served; text = text; hosts = hosts; turns = turns }

-- how often texts have failed, and what a dial tells
pub record Supply : Type 0 where
  pub texts : ℕ
  pub dial : DialTells

abbrev pub supply_of : ℕ → DialTells → Supply
supply_of texts dial = record { texts = texts; dial = dial }

-- what is told at a moment by the listener and by the inboxes, by the one from which what they left is replied to, and
-- by the texts and the dial, and the disks of the maps
pub record ServerTells (D : Type 0) : Type 0 where
  pub listen : ListenTells
  pub boxes : List InboxTells
  pub out : InboxTells
  pub supply : Supply
  pub disks : List D

abbrev pub server_tells : {D : Type 0} → ListenTells → List InboxTells → InboxTells → Supply → List D → ServerTells D
server_tells listen boxes out supply disks =
    record { listen = listen; boxes = boxes; out = out; supply = supply; disks = disks }

-- what an inbox tells that is one of several of a port: of its turns, and how often it has failed
pub record EndTells : Type 0 where
  pub box : InboxTells
  pub faults : ℕ

-- what is told at a moment by a listener, by further inboxes beside that of an office, and by one more, from which is
-- replied to what those leave
pub record DoorTells : Type 0 where
  pub listen : ListenTells
  pub more : List EndTells
  pub out : EndTells

abbrev pub end_by : {I : Type 0} → inbox.Ghosts I → I → EndTells
end_by ghosts inbox =
    record { box = inbox_tells ghosts.past ghosts.turns ghosts.quiets inbox; faults = ghosts.faults inbox }

abbrev pub doors_by : {L X Y Z W V I : Type 0} → hall.Ghosts L X Y Z W V → inbox.Ghosts I → Doors L I → DoorTells
doors_by halls inboxes doors = record {
  listen = opening_by halls doors.listen;
  more = map (end_by inboxes) doors.more.items;
  out = end_by inboxes doors.outbox;
}

-- what the program reaches outside itself, at a moment: an office, and what is told at its doors
pub record OutsideTells (S K D C A I T : Type 0) : Type 0 where
  pub office : Office S K D C A I T
  pub doors : DoorTells

abbrev pub outside_tells : {S K D C A I T : Type 0} → Office S K D C A I T → DoorTells → OutsideTells S K D C A I T
outside_tells office doors = record { office = office; doors = doors }

abbrev pub outside_by : {S K D C L A I T X Y Z W V : Type 0} → hall.Ghosts L X Y Z W V → inbox.Ghosts I
    → Outside S K D C L A I T → OutsideTells S K D C A I T
outside_by halls inboxes outside = outside_tells outside.office (doors_by halls inboxes outside.doors)

-- what its workers do, each with a reader of the one board
abbrev pub conduct : ServeSetup → Conduct (WorkerState Seen)
conduct setup = conduct_at (λ reader. reader) Refreshes setup.text setup.hosts

-- what was shown of maps that were loaded, and how they stood
abbrev pub first_of : {D : Type 0} → List (StoredMap D) → PublisherState
first_of maps = record { log = starts 0 (versions maps); standings = map (λ kept. kept.standing) maps }

-- what had been shown of maps before the first caller came, and how they stood then, and what was shown at the end
pub record LogGrowth : Type 0 where
  pub first : PublisherState
  pub log : Log

-- Workers served connections, each many at once and step by step: the conversation of each connection was cut where the
-- connection was closed, and over unless that was let go. They served datagrams, too. What each knew is a front of the
-- log. So many records of the connections were read, and this is what all workers counted of makes and transfers,
-- summed up. The FILEs are at most as many as the faults of the texts and of the disks, the orders that were reached at
-- most as many as the wires that begin with one, and the failed sources at most as many as the faults of the dial and
-- the wires that give no version. At least as many versions were shown as makes were answered SUCC, each made of the
-- text of its map, or of netgroups that the log shows up to there, behind what was shown of the map. The other versions
-- that were shown, with the maps that are behind a version that wasn't built so, are at most as many as the wires that
-- give a version. Each version that was shown was new behind the log before it: it was built so, or a wire gave it. At
-- each moment a crash leaves of each map what it might have left once it was loaded, or bytes that stand for what was
-- shown of it or for a version that was new. The dial was used for transfers of the maps alone: to fetch one from a
-- host of the table, and to tell a caller what a host left it.
pub record IsAccounted {D : Type 0} (seen : disk.Ghosts D) (setup : ServeSetup) (growth : LogGrowth) (hosted : Hosted)
    (old new : ServerTells D) : Type 0 where
  pub counted : CountsAndTells (conduct setup)
      (server_terms (terms_of setup.catalogue growth.first.log CALLS_MAX) setup.turns) setup.hosts
      (network_tells (endpoint_tells old.listen old.boxes old.out) old.supply.dial)
      (network_tells (endpoint_tells new.listen new.boxes new.out) new.supply.dial)
      (server_end hosted.tally.calls hosted.inbox_fault hosted.totals growth.log)
  pub files : FilesAreCovered seen.history seen.faults (file_tells old.supply.texts old.disks)
      (file_tells new.supply.texts new.disks) hosted.totals
  pub orders : CoversOrders old.supply.dial.past new.supply.dial.past hosted.totals.outcomes.reached
  pub sources : CoversSources old.supply.dial.past new.supply.dial.past old.supply.dial.faults new.supply.dial.faults
      hosted.totals.outcomes.source
  pub origins : AreTold seen.history new.disks → ComesFrom seen.history (IsBuiltAsNamed setup.text setup.catalogue)
      (served_maps setup.catalogue growth.first growth.log new.disks) hosted.totals.made old.supply.dial.past
      new.supply.dial.past
  pub traced : EachComesFrom seen.history (IsBuiltAsNamed setup.text setup.catalogue)
      (served_maps setup.catalogue growth.first growth.log new.disks) (map seen.history old.disks)
      old.supply.dial.past new.supply.dial.past

-- Maps that were loaded were served, and what their files stood for was shown before the first caller came. What was
-- shown since stands behind that in one log. So many connections came, and all were closed. Each datagram had its turn,
-- and what was done in the turns and in the connections is accounted for. Whatever a crash may leave of a disk now
-- stands for what the log shows of its map, or, where that is behind, for that or for the version whose install failed.
-- The orders of each map rise in the log, where all disks tell what a crash may leave of them.
pub record IsServed {D : Type 0} (seen : disk.Ghosts D) (setup : ServeSetup) (first : PublisherState) (hosted : Hosted)
    (old new : ServerTells D) : Type 0 where
  pub log : Log
  pub grown : IsFront first.log log
  pub connections : IsListenerState old.listen new.listen hosted.tally.connections hosted.tally.listen_fault 0 1
  pub datagrams : ServesInboxes (mail_service (conduct setup) count_told setup.catalogue first.log log setup.turns)
      hosted.inbox_fault old.boxes new.boxes old.out new.out
  pub leaves : DisksStand seen.history setup.catalogue log new.disks
  pub rises : AreTold seen.history new.disks → IsRisingLog log
  pub accounted : IsAccounted seen setup (record { first = first; log = log }) hosted old new

-- Maps were loaded, each by the version that its file stood for, and served.
pub record IsHosted {D : Type 0} (seen : disk.Ghosts D) (setup : ServeSetup) (hosted : Hosted) (old new : ServerTells D)
    : Type 0 where
  pub maps : List (StoredMap D)
  pub opened : AllZip (IsOpened seen.history seen.faults) old.disks maps
  pub served : IsServed seen setup (first_of maps) hosted (record old { disks = disks_of maps }) new
