-- Connections that are accepted without waiting, and what is told of them.
use Rattle.std.specs.Prelude.{◌≡◌, ◌<◌, ℕ, ⊤}
use Rattle.yp_io.specs.Counts.{next_count}
use Rattle.yp_io.specs.declared.ready.TrySource as try_source
use Rattle.yp_io.specs.declared.ready.TrySink as try_sink
use Rattle.yp_io.specs.Calls.{Halves, Accepting}
use Rattle.yp_io.specs.declared.called.Called.{Called}
use Rattle.yp_io.specs.declared.hall.Coming.{Coming}
use Rattle.yp_io.specs.declared.hall.Coming.TheVariants.{Came, NotNow, Closed}
use Rattle.yp_io.specs.declared.hall.Notice.{Notice}
use Rattle.yp_io.specs.declared.hall.Notice.TheVariants.{Late}

-- how the halves of a wire are seen that is never waited for
abbrev pub try_halves_of : {S K : Type 0} → try_source.Ghosts S → try_sink.Ghosts K → Halves S K
try_halves_of source sink = record {
  input = source.input;
  reads = source.faults;
  output = sink.output;
  flushed = sink.flushed;
  writes = sink.faults;
}

-- None comes now, though more are to come, and nothing has changed.
pub record NoneComes (old new : Accepting) : Type 0 where
  pub room : old.accepted < old.most
  pub same : new ≡ old

-- P holds of the connection that came, if one did
abbrev pub IfComes : {S K : Type 0} → (Called S K → Type 0) → Coming S K → Type 0
IfComes P (Came call) = P call
IfComes P NotNow = ⊤
IfComes P Closed = ⊤

-- P holds where none came now
abbrev pub OnNotNow : {S K : Type 0} → Type 0 → Coming S K → Type 0
OnNotNow P (Came call) = ⊤
OnNotNow P NotNow = P
OnNotNow P Closed = ⊤

-- P holds where none comes any more
abbrev pub OnNoMore : {S K : Type 0} → Type 0 → Coming S K → Type 0
OnNoMore P (Came call) = ⊤
OnNoMore P NotNow = ⊤
OnNoMore P Closed = P

-- how many connections were let go behind a notice: one more where it tells one late
abbrev pub let_go_behind : ℕ → Notice → ℕ
let_go_behind before (Late place) = next_count before
let_go_behind before _ = before
