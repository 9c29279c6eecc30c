-- How a worker has ended.
use Rattle.std.specs.Prelude.{◌≡◌, ◌≤◌, ℕ, false, List, length, Option, Some, IfSome}
use Rattle.yp_io.specs.Counts.{capped}
use Rattle.yp_answer.specs.session.Hosts.{Conduct}
use Rattle.yp_io.specs.Calls.{ListenerHistory, ClosedConnection}
use Rattle.std.specs.List.{All}
use Rattle.yp_worker.specs.declared.tally.Tally.{Tally}
use Rattle.yp_worker.specs.Working.{Working, WorkerStep, IsOwnStep, TakesSteps}
use Rattle.yp_worker.specs.Receptions.{Terms, IsUnder}
use Rattle.yp_worker.specs.Summing.{Counting, ServedConnection, LeftConnection, ends_of, calls_of, let_go_of}
use Rattle.yp_worker.specs.Summing.{WasServed, WasHandedOn, numbers_of, AreApart, IsStepOf, WorkerRun}

abbrev pub worker_run_of : {H : Type 0} → Working H → Working H → List WorkerStep → List ServedConnection
    → List LeftConnection → WorkerRun H
worker_run_of first last steps stays left =
    record { first = first; last = last; steps = steps; stays = stays; left = left }

-- what is told of a worker that has ended, but for its host: how many connections it counted and how many records of
-- them, the connections that its closer tells and how many it has closed, and how many its watch let go
pub record EndTells : Type 0 where
  pub tally : Tally
  pub closed : Option (List ClosedConnection)
  pub closed_count : ℕ
  pub let_go : ℕ

-- A worker took steps, from one that was such a worker, and served so many connections in them, of which so many
-- records were read, and left others. Its closer tells those that it closed where the listener tells its connections,
-- and has closed as many; and no more of them were let go than its watch says.
pub record HasEnded {H T : Type 0} (conduct : Conduct H) (counting : Counting H T) (terms : Terms)
    (past : Option ListenerHistory) (worker : Working H) (end : EndTells) : Type 0 where
  pub first : Working H
  pub steps : List WorkerStep
  pub stays : List ServedConnection
  pub left : List LeftConnection
  pub under : IsUnder conduct terms first
  pub from_none : counting.counted first.host ≡ counting.none
  pub takes : TakesSteps conduct counting.counted steps first.host worker.host
  pub own : first.carries ≡ false → All IsOwnStep steps
  pub served : All (WasServed conduct counting terms past steps) stays
  pub handed_on : All (WasHandedOn past steps) left
  pub apart : AreApart (numbers_of stays left)
  pub owned : All (IsStepOf stays left) steps
  pub connections_are : end.tally.connections ≡ length stays
  pub calls_are : end.tally.calls ≡ calls_of stays
  pub told : IfSome past (λ _. end.closed ≡ Some (ends_of stays))
  pub closed_are : end.closed_count ≡ capped 0 (length stays)
  pub let_go_are : capped 0 (let_go_of stays) ≤ end.let_go
