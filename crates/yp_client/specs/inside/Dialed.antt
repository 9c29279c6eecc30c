-- Words beside those of specs/Dialed.antt, which the contract of the program doesn't reach.
use Rattle.std.specs.Prelude.{◌≤◌}
use Rattle.yp_io.specs.declared.stream.Peer.{Peer}
use Rattle.yp_io.specs.Dials.{Dialing, connected, WireComes}
use Rattle.yp_client.specs.declared.dialed.Unconnected.{Unconnected}
use Rattle.yp_client.specs.declared.dialed.Unconnected.TheVariants.{Dial, NoMemory}
use Rattle.yp_client.specs.States.{ClientState, IsFirst}
use Rattle.yp_client.specs.Dialed.{IsDialed, IsNotDialed}

-- A wire to this peer came, and a client calls on it. The dial tells what its input and its output are.
pub record IsConnected (peer : Peer) (client : ClientState) (old new : Dialing) : Type 0 where
  pub comes : WireComes (connected peer client.wire.input client.wire.output) old.past new.past
  pub begins : IsFirst client
  pub counted : old.faults ≤ new.faults

-- why there is no client: no wire came, or memory ran out for it, and the wire went back as it came
abbrev pub IsUnconnected : Peer → Unconnected → Dialing → Dialing → Type 0
IsUnconnected peer Dial old new = IsNotDialed old new
IsUnconnected peer NoMemory old new = (client : ClientState) × IsDialed peer client client old new
