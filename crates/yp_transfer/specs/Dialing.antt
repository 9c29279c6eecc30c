-- What a fetch does to a dial.
use Rattle.std.specs.Prelude.{◌≡◌, ◌⊎◌, ℕ, ◌==◌, ◌||◌, List, length, Result, Ok, Err, if◌then◌else◌}
use Rattle.std.specs.Option.{ok_or}
use Rattle.yp_io.specs.Counts.{HasRisen}
use Rattle.yp_io.specs.declared.stream.Peer.{Peer}
use Rattle.yp_io.specs.Dials.{Dialing}
use Rattle.yp_client.specs.States.{ClientState}
use Rattle.yp_client.specs.Dialed.{IsDialed, IsNotDialed}
use Rattle.yp_transfer.specs.declared.fault.XfrFault.{XfrFault}
use Rattle.yp_transfer.specs.declared.fault.XfrFault.TheVariants.{Maddr, Rpc, Badargs, NoMemory}
use Rattle.yp_transfer.specs.Fetching.{Wanted, FetchOutcome, Course, StopsFetch}
use Rattle.yp_transfer.specs.Fetched.{IsFetched, FailsByWire}
use Rattle.yp_transfer.specs.Called.{FetchesByCalls}
use Rattle.yp_transfer.specs.HostTable.{HostList, find}

-- the address of a source, or why it has none: a name that is empty, or that the table lacks
abbrev pub sought : Wanted → List ℕ → HostList → Result Peer XfrFault
sought wanted source hosts =
    if length wanted.domain == 0 || length wanted.map == 0 || length source == 0 then Err Badargs
    else ok_or (find source hosts) Maddr

-- One wire to this peer came, the calls were made on it, and it went back. No call was made where memory ran out for a
-- client. What came of it is what the bytes of the wire say, where it tells them.
pub record FetchesOnWire (peer : Peer) (wanted : Wanted) (outcome : FetchOutcome) (old new : Dialing) : Type 0 where
  pub first : ClientState
  pub last : ClientState
  pub dialed : IsDialed peer first last old new
  pub fetches : FetchesByCalls wanted outcome first last ⊎ StopsFetch NoMemory outcome first last
  pub fetched : IsFetched wanted outcome first last
  pub cause : FailsByWire outcome first last → HasRisen old.faults new.faults

abbrev pub ByAddress : Wanted → Result Peer XfrFault → Course Dialing
ByAddress wanted (Err fault) outcome old new = StopsFetch fault outcome old new
ByAddress wanted (Ok peer) outcome old new =
    ((outcome ≡ Err Rpc) × IsNotDialed old new) ⊎ FetchesOnWire peer wanted outcome old new

-- What is wanted is fetched from a source of the table.
abbrev pub FetchesFrom : HostList → List ℕ → Wanted → Course Dialing
FetchesFrom hosts source wanted outcome old new = ByAddress wanted (sought wanted source hosts) outcome old new
