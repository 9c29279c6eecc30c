-- A binder as a whole, and the pings of a round.
use Rattle.std.specs.Prelude.{ℕ, zero, suc, ◌+◌, ◌%◌, ◌^◌, Bool, true}
use Rattle.std.specs.Prelude.{List, [], ◌∷◌, ◌++◌, length, map, filter, take, drop}
use Rattle.std.specs.Prelude.{Option, Some, None, ◌&&◌, ◌==◌, bytes_eq, if◌then◌else◌}
use Rattle.std.specs.List.{slice_get, find, before_first}
use Rattle.yp_io.specs.declared.stream.Peer.{Peer}
use Rattle.yp_binding.specs.declared.binder.Ping.{Ping}
use Rattle.yp_binding.specs.declared.binder.Policy.{Policy}
use Rattle.yp_binding.specs.declared.event.Binding.{Binding}
use Rattle.yp_binding.specs.declared.event.Event.{Event}
use Rattle.yp_binding.specs.declared.event.Event.TheVariants.{Pinged}
use Rattle.yp_binding.specs.Events.{is_quiet, is_ping, binding_of}

-- the domains, the servers that are pinged, who may bind a domain, and what happened, the last event first
pub record Bindings : Type 0 where
  pub domains : List (List ℕ)
  pub servers : List Peer
  pub policy : Policy
  pub events : List Event

-- the bindings after one more event
abbrev pub with_event : Bindings → Event → Bindings
with_event bindings event = record bindings { events = event ∷ bindings.events }

-- A round begins at first, and with each quiet turn. What happened in it:
unfoldable pub this_round : List Event → List Event
this_round events = before_first is_quiet events

-- what had happened when it began
unfoldable pub round_begin : List Event → List Event
round_begin events = drop (length (this_round events)) events

-- how many of a list are pings
abbrev pub ping_count : List Event → ℕ
ping_count events = length (filter is_ping events)

-- how many pings of the round are out
unfoldable pub out : List Event → ℕ
out events = ping_count (this_round events)

abbrev pub target : ℕ → Peer → Binding
target domain server = record { domain = domain; server = server }

-- the servers that a round pings for a domain: every server where the domain is unbound, else the server that it is
-- bound to
abbrev pub targets_of : List Peer → ℕ → Option Peer → List Binding
targets_of servers domain None = map (target domain) servers
targets_of servers domain (Some server) = target domain server ∷ []

-- the pings of this many domains, the first of which has this number, as the domains are bound after these events
abbrev pub targets_from : List Peer → List Event → ℕ → ℕ → List Binding
targets_from servers events domain zero = []
targets_from servers events domain (suc n) =
    targets_of servers domain (binding_of domain events) ++ targets_from servers events (domain + 1) n

-- the servers that are pinged in the round, domain by domain
unfoldable pub targets : Bindings → List Binding
targets bindings = targets_from bindings.servers (round_begin bindings.events) 0 (length bindings.domains)

-- the number of the round's first ping: they count from 1 on, and begin anew behind the last number of 32 bits
unfoldable pub first_number : List Event → ℕ
first_number events = ping_count (round_begin events) + 1

abbrev pub ping_at : ℕ → Binding → Ping
ping_at number to = record { xid = number % 2 ^ 32; server = to.server; domain = to.domain }

-- pings in turn
abbrev pub pings_from : ℕ → List Binding → List Ping
pings_from number [] = []
pings_from number (to ∷ others) = ping_at number to ∷ pings_from (number + 1) others

-- the pings of the round
abbrev pub round_of : Bindings → List Ping
round_of bindings = pings_from (first_number bindings.events) (targets bindings)

-- the next of them, if any isn't out
abbrev pub next_ping_of : Bindings → Option Ping
next_ping_of bindings = slice_get (round_of bindings) (out bindings.events)

-- the binder behind such an answer
abbrev pub after_ping : Bindings → Option Ping → Bindings
after_ping bindings None = bindings
after_ping bindings (Some ping) = with_event bindings Pinged

-- the ping of the round that is out with this xid
abbrev pub ping_with : Bindings → ℕ → Option Ping
ping_with bindings xid = find (λ ping. ping.xid == xid) (take (out bindings.events) (round_of bindings))

-- two peers are one
abbrev pub is_same_peer : Peer → Peer → Bool
is_same_peer a b = bytes_eq a.addr b.addr && (a.port == b.port)

-- a domain that is bound so may be bound to a server: it is unbound, or bound to that one
abbrev pub may_bind : Option Peer → Peer → Bool
may_bind None server = true
may_bind (Some bound) server = is_same_peer bound server

-- the server that a ping goes to, and its domain
abbrev pub target_of : Ping → Binding
target_of ping = target ping.domain ping.server

-- the binding that an offer of a server gives, of one that was pinged for a domain that is bound so
abbrev pub taken_at : Binding → Option Peer → Peer → Option Binding
taken_at to bound from =
    if is_same_peer to.server from && may_bind bound from then Some (target to.domain from) else None

-- the binding that an answer of a server makes, by the ping that it answers, if there is one
abbrev pub taken_from : Bindings → Peer → Option Ping → Option Binding
taken_from bindings from None = None
taken_from bindings from (Some ping) =
    taken_at (target_of ping) (binding_of ping.domain bindings.events) from

-- An offer is taken where it says yes, its xid is of the round, it comes of that ping's server, and the domain is
-- unbound or bound to it.
abbrev pub taken_by : Bindings → ℕ → Peer → Bool → Option Binding
taken_by bindings xid from has_it = if has_it then taken_from bindings from (ping_with bindings xid) else None
