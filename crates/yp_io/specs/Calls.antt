-- Connections that are accepted and closed, and what is told of them.
use Rattle.std.specs.Prelude.{◌≡◌, ℕ, ◌+◌, ◌<◌, Bool, List, [], ◌∷◌, ◌++◌, Option, None, Some, ⊤}
use Rattle.yp_io.specs.Dials.{Connected, connected, WireState, wire_state, IsFresh}
use Rattle.yp_io.specs.declared.called.Called.{Called}

-- a connection that was closed: what it told as it came, what its wire tells, and how often its source and its sink
-- have failed
pub record ClosedConnection : Type 0 where
  pub came : Connected
  pub wire : WireState
  pub reads : ℕ
  pub writes : ℕ

-- the connections of a listener: those that are to come, each that came, both in order, and those that each closer has
-- closed which was taken in, in the order of that closer
pub record ListenerHistory : Type 0 where
  pub coming : List Connected
  pub came : List Connected
  pub closed : List (List ClosedConnection)

-- what a closer of a listener tells that has closed none yet: nothing where that tells nothing
abbrev pub none_closed : Option ListenerHistory → Option (List ClosedConnection)
none_closed None = None
none_closed (Some calls) = Some []

-- what it tells once it has closed these, too
abbrev pub closed_then : Option (List ClosedConnection) → List ClosedConnection → Option (List ClosedConnection)
closed_then None more = None
closed_then (Some before) more = Some (before ++ more)

-- what a listener tells once a closer was taken in that tells this
abbrev pub taken_in : Option ListenerHistory → Option (List ClosedConnection) → Option ListenerHistory
taken_in (Some calls) (Some closed) =
    Some (record { coming = calls.coming; came = calls.came; closed = calls.closed ++ closed ∷ [] })
taken_in _ _ = None

-- how the halves of a wire are seen: what is left of the input, and how often that has failed; what the output has
-- taken, whether it was flushed since, and how often that has failed
pub record Halves (S K : Type 0) : Type 0 where
  pub input : S → Option (List ℕ)
  pub reads : S → ℕ
  pub output : K → Option (List ℕ)
  pub flushed : K → Bool
  pub writes : K → ℕ

-- what a connection tells of how it came, and when it is closed
abbrev pub came_by : {S K : Type 0} → Halves S K → Called S K → Connected
came_by halves call =
    connected call.origin.peer (halves.input call.origin.wire.source) (halves.output call.origin.wire.sink)

abbrev pub ended_by : {S K : Type 0} → Halves S K → Called S K → ClosedConnection
ended_by halves call = record {
  came = came_by halves call;
  wire = wire_state (halves.input call.wire.source) (halves.output call.wire.sink) (halves.flushed call.wire.sink);
  reads = halves.reads call.wire.source;
  writes = halves.writes call.wire.sink;
}

-- A connection is as it came: it has met no fault and taken nothing, and nothing was read from it.
pub record IsFreshCall {S K : Type 0} (halves : Halves S K) (call : Called S K) : Type 0 where
  pub as_it_came : call.origin.wire ≡ call.wire
  pub fresh : IsFresh (halves.reads call.wire.source) (halves.writes call.wire.sink) (halves.output call.wire.sink)

-- what a listener tells, how many connections it is to accept, and how many it has accepted
pub record Accepting : Type 0 where
  pub past : Option ListenerHistory
  pub most : ℕ
  pub accepted : ℕ

abbrev pub accepting_of : {L : Type 0} → (L → Option ListenerHistory) → (L → ℕ) → (L → ℕ) → L → Accepting
accepting_of past most accepted listener =
    record { past = past listener; most = most listener; accepted = accepted listener }

-- what is told gained this connection, the first of those that were to come
abbrev pub GainsCall : Connected → Option ListenerHistory → Option ListenerHistory → Type 0
GainsCall wire None new = ⊤
GainsCall wire (Some calls) None = ⊥
GainsCall wire (Some calls) (Some others) =
    (calls.coming ≡ wire ∷ others.coming)
    × (others ≡ record { coming = others.coming; came = calls.came ++ wire ∷ []; closed = calls.closed })

-- This connection came, as one more of those that are to.
pub record ConnectionComes (wire : Connected) (old new : Accepting) : Type 0 where
  pub gained : GainsCall wire old.past new.past
  pub room : old.accepted < old.most
  pub accepted : new.accepted ≡ old.accepted + 1
  pub most : new.most ≡ old.most

-- As many came as are to, and nothing has changed.
pub record IsClosed (old new : Accepting) : Type 0 where
  pub all : old.accepted ≡ old.most
  pub same : new ≡ old
