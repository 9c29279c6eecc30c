-- Which server a domain is bound to (ypbind), as a function of the list of what happened, the last event first.
use Rattle.std.specs.Prelude.{ℕ, Bool, true, false, List, [], ◌∷◌, length, filter, Option, Some, None, is_some, ◌==◌}
use Rattle.std.specs.Prelude.{nat_lt, if◌then◌else◌}
use Rattle.std.specs.List.{filter_map, before_first}
use Rattle.yp_io.specs.declared.stream.Peer.{Peer}
use Rattle.yp_binding.specs.declared.event.Binding.{Binding}
use Rattle.yp_binding.specs.declared.event.Event.{Event}
use Rattle.yp_binding.specs.declared.event.Event.TheVariants.{Called, Pinged, Offered, Quiet}

-- the quiet turns that end a binding
abbrev pub quiet_max : ℕ
quiet_max = 3

-- a domain's server, where it is of this domain
abbrev pub server_for : ℕ → Option Binding → Option Peer
server_for domain None = None
server_for domain (Some binding) = if binding.domain == domain then Some binding.server else None

-- the server that an event binds a domain to: that of a SETDOM that was let, or of an offer that was taken
abbrev pub binds : ℕ → Event → Option Peer
binds domain (Called set) = server_for domain set
binds domain Pinged = None
binds domain (Offered taken) = server_for domain taken
binds domain Quiet = None

-- nothing came
abbrev pub is_quiet : Event → Bool
is_quiet (Called _) = false
is_quiet Pinged = false
is_quiet (Offered _) = false
is_quiet Quiet = true

-- a server was pinged
abbrev pub is_ping : Event → Bool
is_ping (Called _) = false
is_ping Pinged = true
is_ping (Offered _) = false
is_ping Quiet = false

-- the first of a list
abbrev pub first_of : {X : Type 0} → List X → Option X
first_of [] = None
first_of (x ∷ xs) = Some x

-- the server of the last event that binds the domain
unfoldable pub latest : ℕ → List Event → Option Peer
latest domain events = first_of (filter_map (binds domain) events)

-- how many quiet turns follow that event
unfoldable pub quiet_turns : ℕ → List Event → ℕ
quiet_turns domain events = length (filter is_quiet (before_first (λ event. is_some (binds domain event)) events))

-- The domain is bound to that server where fewer than three quiet turns follow.
abbrev pub binding_of : ℕ → List Event → Option Peer
binding_of domain events = if nat_lt (quiet_turns domain events) quiet_max then latest domain events else None
