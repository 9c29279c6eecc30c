-- What the code keeps of a binder, and what it keeps to.
use Rattle.std.specs.Prelude.{◌≡◌, ℕ, ◌+◌, ◌%◌, ◌^◌, ◌<◌, ◌≤◌, false, List, length, map, Option}
use Rattle.std.specs.Prelude.{slice_index_or, IfSome}
use Rattle.yp_binding.specs.declared.event.Binding.{Binding}
use Rattle.yp_binding.specs.declared.event.Event.{Event}
use Rattle.yp_binding.specs.declared.standing.BindingState.{BindingState}
use Rattle.yp_binding.specs.declared.binder.Binder.TheInside.{Inside}
use Rattle.yp_binding.specs.Events.{server_for, binds, is_quiet, is_ping}
use Rattle.yp_binding.specs.Rounds.{Bindings, out, first_number, targets}
use Rattle.yp_binding.specs.inside.Standings.{fresh, standing_of}
use Rattle.yp_binding.specs.Kept.{servers_max}

-- the most domains and servers
abbrev pub domains_max : ℕ
domains_max = 8

-- what the fields tell
abbrev pub bindings_of : Inside → Bindings
bindings_of inside = record {
  domains = map (λ name. name.items) inside.domains.items;
  servers = inside.servers.items;
  policy = inside.policy;
  events = inside.history;
}

-- the standings are those by the events, and the numbers are those of the round
pub record Keeps (bindings : Bindings) (standings : List BindingState) (pinged first_xid next_xid : ℕ) : Type 0 where
  pub few : length bindings.domains ≤ domains_max
  pub few_servers : length bindings.servers ≤ servers_max
  pub count : length standings ≡ length bindings.domains
  pub by_events : (domain : ℕ) → domain < length standings
      → slice_index_or standings domain fresh ≡ standing_of domain bindings.events
  pub are_out : pinged ≡ out bindings.events
  pub within : pinged ≤ length (targets bindings)
  pub first : first_xid ≡ first_number bindings.events % 2 ^ 32
  pub next : next_xid ≡ (first_number bindings.events + pinged) % 2 ^ 32

abbrev pub IsKept : Inside → Type 0
IsKept inside = Keeps (bindings_of inside) inside.standings.items inside.pinged inside.first_xid inside.next_xid

-- an event binds what this says, and does nothing else
pub record Binds (count : ℕ) (binding : Option Binding) (event : Event) : Type 0 where
  pub within : IfSome binding (λ bound. bound.domain < count)
  pub bound : (domain : ℕ) → binds domain event ≡ server_for domain binding
  pub is_heard : is_quiet event ≡ false
  pub pings_none : is_ping event ≡ false
