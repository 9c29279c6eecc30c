-- What is told of a client between two calls.
use Rattle.std.specs.Prelude.{◌≡◌, ℕ, Bool, false}
use Rattle.yp_io.specs.declared.stream.Pair.{Pair}
use Rattle.yp_io.specs.Dials.{WireState, IsFresh}

-- a client: its wire, the number of its next call, the place up to which it has read, whether it is spent, and its wire
-- as it was when it began to wait for a reply the last time, which at first is its wire at first
pub record ClientModel (S K : Type 0) : Type 0 where
  pub wire : Pair S K
  pub xid : ℕ
  pub place : ℕ
  pub spent : Bool
  pub waited : Pair S K

-- a client by what its wires tell, and by how often each half of its wire has failed
pub record ClientState : Type 0 where
  pub wire : WireState
  pub reads : ℕ
  pub writes : ℕ
  pub xid : ℕ
  pub place : ℕ
  pub spent : Bool
  pub waited : WireState

-- a client of a wire that has met no fault and taken nothing, whose first call has the number 1
pub record IsFirst (client : ClientState) : Type 0 where
  pub fresh : IsFresh client.reads client.writes client.wire.output
  pub xid : client.xid ≡ 1
  pub place : client.place ≡ 0
  pub spent : client.spent ≡ false
