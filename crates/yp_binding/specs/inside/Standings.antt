-- What the binder keeps of each domain, and what the events make of it.
use Rattle.std.specs.Prelude.{ℕ, ◌+◌, min, List, Option, Some, None, nat_lt, if◌then◌else◌}
use Rattle.yp_io.specs.declared.stream.Peer.{Peer}
use Rattle.yp_binding.specs.declared.event.Event.{Event}
use Rattle.yp_binding.specs.declared.standing.BindingState.{BindingState}
use Rattle.yp_binding.specs.Events.{quiet_max, latest, quiet_turns, binding_of}
use Rattle.yp_binding.specs.Rounds.{round_begin}

-- where nothing happened yet
abbrev pub fresh : BindingState
fresh = record { latest = None; quiet = 0; asked = None }

-- the server that a domain is bound to
abbrev pub bound_by : BindingState → Option Peer
bound_by standing = if nat_lt standing.quiet quiet_max then standing.latest else None

-- after a turn with this many quiet ones, a round begins
abbrev pub rested_at : BindingState → ℕ → BindingState
rested_at standing quiet =
    record standing { quiet = quiet; asked = (if nat_lt quiet quiet_max then standing.latest else None) }

-- after a quiet turn
abbrev pub rested : BindingState → BindingState
rested standing = rested_at standing (min (standing.quiet + 1) quiet_max)

-- after it was bound
abbrev pub bound_to : BindingState → Peer → BindingState
bound_to standing server = record standing { latest = Some server; quiet = 0 }

-- by the events
unfoldable pub standing_of : ℕ → List Event → BindingState
standing_of domain events = record {
  latest = latest domain events;
  quiet = min (quiet_turns domain events) quiet_max;
  asked = binding_of domain (round_begin events);
}
