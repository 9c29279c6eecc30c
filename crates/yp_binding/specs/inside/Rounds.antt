-- The pings that a round has left.
use Rattle.std.specs.Prelude.{ℕ, ◌-◌}
use Rattle.std.specs.Prelude.{length}
use Rattle.yp_binding.specs.Rounds.{Bindings, out, targets}

-- how many pings of the round aren't out
abbrev pub pings_left : Bindings → ℕ
pings_left bindings = length (targets bindings) - out bindings.events
