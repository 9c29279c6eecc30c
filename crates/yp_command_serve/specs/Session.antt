-- What `session` does: it serves its input as one connection over stored maps.
use Rattle.std.specs.Prelude.{◌≡◌, ◌≢◌, ◌≤◌, ℕ, Bool, true, List, [], All, length, slice_get}
use Rattle.std.specs.Prelude.{Option, Some}
use Rattle.std.specs.List.{AllZip}
use Rattle.yp_io.specs.Disk.{History}
use Rattle.yp_map_file.specs.declared.fault.SlotFault.{SlotFault}
use Rattle.yp_map_file.specs.declared.fault.SlotFault.TheVariants as fault
use Rattle.yp_map_file.specs.Stands.{stands, file_max}
use Rattle.yp_map_file.specs.Stands as stood
use Rattle.yp_io.specs.declared.stream.Peer.{Peer}
use Rattle.yp_board.specs.Catalogues.{Name, name_view}
use Rattle.yp_board.specs.Views.{Seen}
use Rattle.yp_board.specs.declared.catalog.MapName.{MapName}
use Rattle.yp_publisher.specs.Begins.{plain_log, IsUnopened, IsUnwritten}
use Rattle.yp_publisher.specs.declared.open.OpenFault.{OpenFault}
use Rattle.yp_publisher.specs.declared.open.OpenFault.TheVariants as opening
use Rattle.yp_answer.specs.declared.session.session.End.TheVariants as ends
use Rattle.yp_answer.specs.session.Wires.{Wire, SeesMore}
use Rattle.yp_transfer.specs.HostTable.{HostList}
use Rattle.yp_host.specs.declared.desk.Desk.{Desk}
use Rattle.yp_publisher.specs.Keeping.{keeping_of}
use Rattle.yp_host.specs.Locals.{telling_of}
use Rattle.yp_publisher.specs.Grown.{AtDisk, LeavesOr}
use Rattle.yp_host.specs.Connections.{Service, Connection, ServesConnection, service_of}
use Rattle.yp_command.specs.declared.office.office.Office.{Office}
use Rattle.yp_command.specs.office.Seeing.{Seeing, moment, HasCauses, DiskFails}
use Rattle.yp_command.specs.declared.office.disks.NamedDisk.{NamedDisk}
use Rattle.yp_command.specs.office.Disks.{names_of, disks_of}
use Rattle.yp_command_serve.specs.Served.{Witnessed, serve_may_end, wire, Completes}
use Rattle.yp_command.specs.declared.office.status.Status.{Status}
use Rattle.yp_command.specs.declared.office.status.Status.TheVariants.{Done, ReadFault, WriteFault, Torn, TooLong, NoMemory}
use Rattle.yp_command.specs.declared.office.status.Status.TheVariants.{Damaged, DiskFault, Enough}

-- the connection of a wire, named disks and a desk
abbrev pub connection_at : {D E : Type 0} → Wire → List (NamedDisk D) → E → Connection D E
connection_at wire disks desk = record { wire = wire; disks = disks_of disks; desk = desk }

-- A connection wasn't served, for this reason: nothing was read of its wire or written to it, and nothing to its disks,
-- and none of these wires is behind a record.
pub record SessionDeclines {D B E : Type 0} (service : Service D B E) (why : OpenFault) (old new : Connection D E)
    (wires : List Wire) : Type 0 where
  pub unseen : wires ≡ []
  pub wire : new.wire ≡ old.wire
  pub desk : new.desk ≡ old.desk
  pub cause : IsUnopened service.keeping.history service.keeping.faults why old.disks new.disks
  pub unwritten : AllZip (IsUnwritten service.keeping.history service.keeping.faults) old.disks new.disks

-- A connection wasn't served, since the file of the map of this name wasn't loaded, the first such map.
pub record DeclinesFor {D B E : Type 0} (service : Service D B E) (map : MapName) (why : SlotFault)
    (old new : Connection D E) (wires : List Wire) : Type 0 where
  pub number : ℕ
  pub named : slice_get service.catalogue.maps number ≡ Some (name_view map)
  pub declines : SessionDeclines service (opening.Refused number why) old new wires

-- What a session does, for each status: it serves its connection to that end, with these wires behind the records that
-- it answered, or tells the map whose file it couldn't load.
abbrev pub Sessions : {D B E : Type 0} → Service D B E → Status → (old new : Connection D E) → List Wire → Type 0
Sessions service Done old new wires = ServesConnection service ends.Clean old new wires
Sessions service (Torn at) old new wires = ServesConnection service (ends.Torn at) old new wires
Sessions service (TooLong at) old new wires = ServesConnection service (ends.TooLong at) old new wires
Sessions service ReadFault old new wires = ServesConnection service ends.ReadFault old new wires
Sessions service WriteFault old new wires = ServesConnection service ends.WriteFault old new wires
Sessions service Enough old new wires = ServesConnection service ends.Enough old new wires
Sessions service (Damaged map at rule) old new wires = DeclinesFor service map (fault.Damaged at rule) old new wires
Sessions service (DiskFault map) old new wires = DeclinesFor service map fault.DiskFault old new wires
Sessions service NoMemory old new wires = SessionDeclines service opening.NoMemory old new wires
Sessions service _ old new wires = ⊥

-- the file of a map is told, and isn't damaged
pub record DiskIsSound {D : Type 0} (history : D → Option History) (disk : NamedDisk D) : Type 0 where
  pub told : History
  pub tells : history disk.disk ≡ Some told
  pub sound : (at rule : ℕ) → stands told.state.reads ≢ stood.Damaged at rule

-- ---- what `session` does

-- the own name, from whom the calls come, the maps, and the hosts that are known
pub record Job : Type 0 where
  pub own : List ℕ
  pub peer : Peer
  pub stores : List Name
  pub hosts : HostList

abbrev pub session_job_of : List ℕ → Peer → List Name → HostList → Job
session_job_of own peer stores hosts = record { own = own; peer = peer; stores = stores; hosts = hosts }

-- what it serves by: what the parts of the office tell, and the maps, by their host
abbrev pub service : {S K D C A I T : Type 0} → Seeing S K D C A I T → List ℕ → Peer → List Name
    → Service D Seen (Desk A T C)
service seen own peer stores =
    service_of (keeping_of seen.disk.history seen.disk.faults plain_log)
    (telling_of seen.texts seen.clock seen.dial.past seen.dial.letters seen.dial.faults)
    (record { own = own; maps = stores }) peer

-- the connection that an office is at, with a table of hosts
abbrev pub connection : {S K D C A I T : Type 0} → Seeing S K D C A I T → HostList → Office S K D C A I T
    → Connection D (Desk A T C)
connection seen hosts office =
    connection_at (wire seen office) office.disks.items
    (record { dial = office.dial; texts = office.texts; clock = office.clock; hosts = hosts })

-- the statuses with which it may end
abbrev pub session_may_end : Status → Bool
session_may_end (Damaged map at rule) = true
session_may_end (DiskFault map) = true
session_may_end status = serve_may_end status

-- What it does: it serves its input as one connection over the stored maps. What they stood for is shown first, each
-- record is answered on what is then shown, a map that is asked for is built, stored and shown before its reply, and a
-- transfer that is taken is fetched from one of these hosts, stored and shown behind its reply. At each moment a crash
-- leaves of each map what was shown of it, or the version that was being installed. Where a file can't be loaded
-- nothing is read or written. Over files that aren't damaged its status is that of the one cut of its input. What a
-- witness has seen grows by the wires behind the records that were answered.
pub record SessionDoes {S K D C A I T : Type 0} (seen : Seeing S K D C A I T) (job : Job) (status : Status)
    (old new : Witnessed (Office S K D C A I T)) : Type 0 where
  pub serves : SeesMore old.wires new.wires (Sessions (service seen job.own job.peer job.stores) status
      (connection seen job.hosts old.reached) (connection seen job.hosts new.reached))
  pub bound : (number : ℕ) → AtDisk number (disks_of old.reached.disks.items) (disks_of new.reached.disks.items)
      (LeavesOr seen.disk.history (λ image. length image ≤ file_max))
  pub complete : All (DiskIsSound seen.disk.history) old.reached.disks.items
      → ¬ DiskFails seen old.reached new.reached → Completes seen status old.reached new.reached
  pub causes : HasCauses seen status old.reached new.reached
  pub names : names_of new.reached.disks.items ≡ names_of old.reached.disks.items
  pub told : moment seen new.reached ≡ moment seen old.reached
  pub inbox : new.reached.inbox ≡ old.reached.inbox
