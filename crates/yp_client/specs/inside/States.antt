-- A client as the code keeps it, and what is told of it.
use Rattle.std.specs.Prelude.{ℕ, false}
use Rattle.yp_io.specs.declared.stream.Pair.{Pair}
use Rattle.yp_io.specs.declared.stream.Source as source
use Rattle.yp_io.specs.declared.stream.Sink as sink
use Rattle.yp_io.specs.Dials.{WireState, wire_state}
use Rattle.yp_client.specs.States.{ClientModel, ClientState}

-- a client that isn't spent, and waits for no reply
abbrev pub unspent : {S K : Type 0} → Pair S K → ℕ → ℕ → ClientModel S K
unspent wire xid place = record { wire = wire; xid = xid; place = place; spent = false; waited = wire }

module _ {S K : Type 0} (ins : source.Ghosts S) (outs : sink.Ghosts K) where
  abbrev pub told_by : Pair S K → WireState
  told_by wire = wire_state (ins.input wire.source) (outs.output wire.sink) (outs.flushed wire.sink)

  abbrev pub state_of : ClientModel S K → ClientState
  state_of client = record {
    wire = told_by client.wire;
    reads = ins.faults client.wire.source;
    writes = outs.faults client.wire.sink;
    xid = client.xid;
    place = client.place;
    spent = client.spent;
    waited = told_by client.waited;
  }
