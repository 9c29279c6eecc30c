-- What a hall in memory keeps.
use Rattle.std.specs.Prelude.{ℕ, Bool, List, map, Option, Some}
use Rattle.yp_memory.specs.inside.Mem.{Feed, Drain}
use Rattle.yp_io.specs.declared.called.Called.{Called}
use Rattle.yp_memory.specs.declared.scheduled.Scheduled.{Scheduled}
use Rattle.yp_io.specs.Dials.{Connected}
use Rattle.yp_io.specs.Calls.{ListenerHistory, ClosedConnection, Accepting, Halves, IsFreshCall, came_by, ended_by}

-- a connection in memory that is never waited for
abbrev pub HallConnection : Type 0
HallConnection = Called (Scheduled Feed) (Scheduled Drain)

-- a closer: the connections that it has closed, whether there was no memory to keep one, and how many it has closed, up
-- to the last count
pub record Closing (C : Type 0) : Type 0 where
  pub closed : List C
  pub lost : Bool
  pub count : ℕ

-- a hall: the connections that will come, each that came, as it was then, the closers that were taken in, whether there
-- was no memory to keep one, how many are to be accepted and how many were, how many were closed and how many let go,
-- which calls fail, and at which nobody comes
pub record MemHallModel : Type 0 where
  pub waiting : List HallConnection
  pub came : List HallConnection
  pub closers : List (Closing HallConnection)
  pub lost : Bool
  pub most : ℕ
  pub accepted : ℕ
  pub returned : ℕ
  pub let_go : ℕ
  pub failing : List ℕ
  pub pausing : List ℕ
  pub calls : ℕ
  pub faults : ℕ

-- how the halves of such a wire are seen
abbrev pub scheduled_halves : Halves (Scheduled Feed) (Scheduled Drain)
scheduled_halves = record {
  input = λ source. Some source.wire.input;
  reads = λ source. source.wire.faults;
  output = λ sink. Some sink.wire.output;
  flushed = λ sink. sink.wire.flushed;
  writes = λ sink. sink.wire.faults;
}

-- what a connection tells of how it came, and when it is closed
abbrev pub entered_of : HallConnection → Connected
entered_of call = came_by scheduled_halves call

abbrev pub left_of : HallConnection → ClosedConnection
left_of call = ended_by scheduled_halves call

-- the connections that a closer has closed
abbrev pub all_left_of : Closing HallConnection → List ClosedConnection
all_left_of closer = map left_of closer.closed

-- its connections
abbrev pub entries_of : MemHallModel → Option ListenerHistory
entries_of hall = Some (record {
  coming = map entered_of hall.waiting;
  came = map entered_of hall.came;
  closed = map all_left_of hall.closers;
})

-- what it tells, how many connections it is to accept, and how many it has accepted
abbrev pub accepting_in : MemHallModel → Accepting
accepting_in hall = record { past = entries_of hall; most = hall.most; accepted = hall.accepted }

-- a connection as it comes
abbrev pub EntryIsNew : HallConnection → Type 0
EntryIsNew call = IsFreshCall scheduled_halves call
