-- What the calls of a client do to a dial.
use Rattle.std.specs.Prelude.{◌≡◌, ◌+◌, ◌≤◌, min, Option}
use Rattle.yp_io.specs.Counts.{HasRisen, last_count}
use Rattle.yp_io.specs.declared.stream.Peer.{Peer}
use Rattle.yp_io.specs.Dials.{Wires, Dialing, connected, WireComes, GoesBack}
use Rattle.yp_client.specs.States.{ClientState, IsFirst}

-- One wire to this peer came, a client was so on it at first and so at last, and it went back: its faults are counted
-- as those of the dial, so the dial has failed where the wire has. The dial tells what its input and its output were at
-- first, and what they were when it went back.
pub record IsDialed (peer : Peer) (first last : ClientState) (old new : Dialing) : Type 0 where
  pub middle : Option Wires
  pub comes : WireComes (connected peer first.wire.input first.wire.output) old.past middle
  pub begins : IsFirst first
  pub goes_back : GoesBack last.wire middle new.past
  pub counted : min (old.faults + (last.reads + last.writes)) last_count ≤ new.faults

-- No wire came.
pub record IsNotDialed (old new : Dialing) : Type 0 where
  pub none : new.past ≡ old.past
  pub cause : HasRisen old.faults new.faults
