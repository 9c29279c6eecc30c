-- What workers did with the connections of a listener: what each of them did, step by step, how each connection stood
-- as it was closed, what was counted in all, and how far their hosts knew the log.
use Rattle.std.specs.Prelude.{◌≡◌, ◌≢◌, ◌≤◌, ◌⊎◌, ℕ, ◌+◌, Bool, true, false, cond, List, [], ◌∷◌, ◌++◌, length, map, fold}
use Rattle.std.specs.Prelude.{Contains, Option, Some, ⊤}
use Rattle.std.specs.List.{All}
use Rattle.yp_io.specs.Counts.{capped}
use Rattle.yp_io.specs.declared.stream.Peer.{Peer}
use Rattle.yp_io.specs.Dials.{Connected, IsFresh, wire_state}
use Rattle.yp_board.specs.Logs.{Log}
use Rattle.yp_board.specs.Views.{IsFront}
use Rattle.yp_answer.specs.declared.session.session.End.{End}
use Rattle.yp_answer.specs.session.Wires.{Wire}
use Rattle.yp_answer.specs.session.Hosts.{Conduct}
use Rattle.yp_answer.specs.session.Cuts.{Deed, Cut, IsCut, EndsSo}
use Rattle.yp_io.specs.Calls.{ListenerHistory, ClosedConnection}
use Rattle.yp_worker.specs.Working.{Working, WorkerStep, TookOver, Did, IsOwnStep, IsDoneWith, deeds_of, TakesSteps}
use Rattle.yp_worker.specs.Receptions.{Terms, IsUnder, IsExpected, ListenTells}

-- how hosts count: what one has counted since it handed that over, the sum of nothing, and a sum and more
pub record Counting (H T : Type 0) : Type 0 where
  pub counted : H → T
  pub none : T
  pub plus : T → T → T

abbrev pub counting_of : {H T : Type 0} → (H → T) → T → (T → T → T) → Counting H T
counting_of counted none plus = record { counted = counted; none = none; plus = plus }

-- a connection that was closed: what it told then, how many records of it were read, the number of its conversation,
-- and whether it was let go before that was over
pub record ServedConnection : Type 0 where
  pub ended : ClosedConnection
  pub calls : ℕ
  pub number : ℕ
  pub let_go : Bool

-- a connection that was left to a worker that does what takes long: how it came, and the number of its conversation
pub record LeftConnection : Type 0 where
  pub came : Connected
  pub number : ℕ

-- what a connection that came so tells where its wire tells this
abbrev pub ended_at : Connected → Wire → ClosedConnection
ended_at came wire = record {
  came = came;
  wire = wire_state wire.source.input wire.sink.output wire.sink.flushed;
  reads = wire.source.faults;
  writes = wire.sink.faults;
}

-- what each of these connections told as it was closed
abbrev pub ends_of : List ServedConnection → List ClosedConnection
ends_of stays = map (λ stay. stay.ended) stays

-- how many of their records were read, up to the last count
abbrev pub calls_of : List ServedConnection → ℕ
calls_of stays = fold (λ count stay. capped count stay.calls) 0 stays

-- how many of them were let go
abbrev pub let_go_of : List ServedConnection → ℕ
let_go_of stays = fold (λ count stay. count + cond stay.let_go 1 0) 0 stays

-- A conversation of at most so many records is over: it came to its end, or memory ran out in a reply.
abbrev pub IsOver : ℕ → Cut → Type 0
IsOver most now = ((end : End) × EndsSo most end now) ⊎ (now.broken ≡ true)

-- ---- a connection that one worker left and another took over

module _ {H T : Type 0} (conduct : Conduct H) (counting : Counting H T) (terms : Terms) where
  -- Such a worker, whose host had counted nothing yet and which took nothing over, did these deeds in a conversation
  -- with this peer, from its beginning on, and then left it. So much was known by its host then.
  pub record WasLeft (peer : Peer) (deeds : List Deed) (known : Log) : Type 0 where
    pub first : Working H
    pub last : H
    pub steps : List WorkerStep
    pub number : ℕ
    pub under : IsUnder conduct terms first
    pub from_none : counting.counted first.host ≡ counting.none
    pub takes : TakesSteps conduct counting.counted steps first.host last
    pub own : All IsOwnStep steps
    pub alone : All (IsDoneWith number peer) steps
    pub deeds_are : deeds_of number steps ≡ deeds
    pub known_is : (conduct.seen last).known ≡ known

  -- A worker that took these steps took the conversation of a number over, behind these deeds of another worker. It
  -- knew all that the other one had known, before its own first deed in that conversation.
  pub record WasTakenOver (peer : Peer) (number : ℕ) (earlier : List Deed) (steps : List WorkerStep) : Type 0 where
    pub known : Log
    pub left : WasLeft peer earlier known
    pub before : List WorkerStep
    pub behind : List WorkerStep
    pub steps_are : steps ≡ before ++ TookOver number known ∷ behind
    pub none_before : deeds_of number before ≡ []

  -- A conversation was a worker's own from its beginning, or was taken over behind these deeds.
  abbrev pub HadBefore : Peer → ℕ → List Deed → List WorkerStep → Type 0
  HadBefore peer number earlier steps = (earlier ≡ []) ⊎ WasTakenOver peer number earlier steps

  -- ---- a connection that was closed

  -- A worker that took these steps served a connection, one of those that were to come. Its wire had met no fault and
  -- taken nothing, and its input was the whole one that came. Its conversation was cut behind the deeds of its number,
  -- and behind those of a worker that had left it before, as it was closed, and it was over, unless the connection was
  -- let go. So many of its records were read.
  --
  -- The wire before is fixed by what the connection told as it came, but for whether its sink was flushed, and the wire
  -- of the cut by what it told as it was closed.
  pub record WasServed (past : Option ListenerHistory) (steps : List WorkerStep) (stay : ServedConnection)
      : Type 0 where
    pub before : Wire
    pub earlier : List Deed
    pub cut : Cut
    pub expected : IsExpected past stay.ended.came
    pub whole : before.source.input ≡ stay.ended.came.input
    pub untaken : before.sink.output ≡ stay.ended.came.output
    pub fresh : IsFresh before.source.faults before.sink.faults before.sink.output
    pub began : HadBefore stay.ended.came.peer stay.number earlier steps
    pub is_cut : IsCut before (earlier ++ deeds_of stay.number steps) cut
    pub over : stay.let_go ≡ false → IsOver terms.most cut
    pub ended : stay.ended ≡ ended_at stay.ended.came cut.wire
    pub calls : stay.calls ≡ cut.progress.calls

-- A worker that took these steps left a connection to another, one of those that were to come. Its wire had met no
-- fault and taken nothing, and its input was the whole one that came. Its conversation was cut behind the deeds of its
-- number as it was left.
pub record WasHandedOn (past : Option ListenerHistory) (steps : List WorkerStep) (one : LeftConnection)
    : Type 0 where
  pub before : Wire
  pub cut : Cut
  pub expected : IsExpected past one.came
  pub whole : before.source.input ≡ one.came.input
  pub untaken : before.sink.output ≡ one.came.output
  pub fresh : IsFresh before.source.faults before.sink.faults before.sink.output
  pub is_cut : IsCut before (deeds_of one.number steps) cut

-- the numbers of connections that were closed, and of those that were left
abbrev pub numbers_of : List ServedConnection → List LeftConnection → List ℕ
numbers_of stays left = map (λ stay. stay.number) stays ++ map (λ one. one.number) left

-- No two of these are the same.
abbrev pub AreApart : List ℕ → Type 0
AreApart [] = ⊤
AreApart (number ∷ numbers) = All (λ other. other ≢ number) numbers × AreApart numbers

-- A deed was done in the conversation of a connection that was closed, or of one that was left, with its peer.
abbrev pub IsStepOf : List ServedConnection → List LeftConnection → WorkerStep → Type 0
IsStepOf stays left (Did number peer deed) =
    ((stay : ServedConnection) × Contains stays stay × (stay.number ≡ number) × (stay.ended.came.peer ≡ peer))
    ⊎ ((one : LeftConnection) × Contains left one × (one.number ≡ number) × (one.came.peer ≡ peer))
IsStepOf stays left _ = ⊤

-- what a worker did: how it was before the first step and behind the last, its steps, the connections that it closed,
-- in that order, and those that it left
pub record WorkerRun (H : Type 0) : Type 0 where
  pub first : Working H
  pub last : Working H
  pub steps : List WorkerStep
  pub stays : List ServedConnection
  pub left : List LeftConnection

-- Such a worker, whose host had counted nothing yet, took these steps, one after the other, all in the conversations of
-- these connections. It took none over from another, unless it does what takes long for others. What the host knows
-- then is a front of a log.
pub record IsWorkerRun {H T : Type 0} (conduct : Conduct H) (counting : Counting H T) (terms : Terms)
    (past : Option ListenerHistory) (reached : Log) (worker_run : WorkerRun H) : Type 0 where
  pub under : IsUnder conduct terms worker_run.first
  pub from_none : counting.counted worker_run.first.host ≡ counting.none
  pub takes : TakesSteps conduct counting.counted worker_run.steps worker_run.first.host worker_run.last.host
  pub own : worker_run.first.carries ≡ false → All IsOwnStep worker_run.steps
  pub served : All (WasServed conduct counting terms past worker_run.steps) worker_run.stays
  pub handed_on : All (WasHandedOn past worker_run.steps) worker_run.left
  pub apart : AreApart (numbers_of worker_run.stays worker_run.left)
  pub owned : All (IsStepOf worker_run.stays worker_run.left) worker_run.steps
  pub front : IsFront (conduct.seen worker_run.last.host).known reached

-- how many connections these are, how many records of them were read, up to the last count, and how many were let go
abbrev pub stays_over : {H : Type 0} → List (WorkerRun H) → ℕ
stays_over worker_runs = fold (λ count worker_run. count + length worker_run.stays) 0 worker_runs

abbrev pub calls_over : {H : Type 0} → List (WorkerRun H) → ℕ
calls_over worker_runs = fold (λ count worker_run. capped count (calls_of worker_run.stays)) 0 worker_runs

abbrev pub let_go_over : {H : Type 0} → List (WorkerRun H) → ℕ
let_go_over worker_runs = fold (λ count worker_run. count + let_go_of worker_run.stays) 0 worker_runs

-- what the hosts have counted in them, one after the other
abbrev pub sum_over : {H T : Type 0} → Counting H T → List (WorkerRun H) → T
sum_over counting worker_runs = fold (λ sum worker_run. counting.plus sum (counting.counted worker_run.last.host))
    counting.none worker_runs

-- A listener took in closers that had closed these, where it tells its connections.
abbrev pub TellsClosed : Option ListenerHistory → Option ListenerHistory → List (List ClosedConnection) → Type 0
TellsClosed (Some old) (Some new) more = new.closed ≡ old.closed ++ more
TellsClosed _ _ more = ⊤

-- what is told of all workers that have ended: how many records of their connections were read, the sum of what they
-- counted, and a log of which each connection was answered on a front
pub record WorkTotals (T : Type 0) : Type 0 where
  pub calls : ℕ
  pub sum : T
  pub reached : Log

-- A listener took in the closers of workers that worked so. What each closer tells is what its worker closed, in that
-- order, and as many were closed as they served. No more were let go than its watches say. So many of their records
-- were read, and this is the sum of what was counted in them. What each was answered on is a front of one log.
pub record SumsUp {H T : Type 0} (conduct : Conduct H) (counting : Counting H T) (terms : Terms) (old new : ListenTells)
    (totals : WorkTotals T) : Type 0 where
  pub worker_runs : List (WorkerRun H)
  pub closed : TellsClosed old.past new.past (map (λ worker_run. ends_of worker_run.stays) worker_runs)
  pub returned : capped new.returned 0 ≡ capped old.returned (stays_over worker_runs)
  pub let_go : capped old.let_go (let_go_over worker_runs) ≤ capped new.let_go 0
  pub work : All (IsWorkerRun conduct counting terms old.past totals.reached) worker_runs
  pub calls_read : totals.calls ≡ calls_over worker_runs
  pub sum_is : totals.sum ≡ sum_over counting worker_runs
