-- A table of hosts, each with its address.
use Rattle.std.specs.Prelude.{ℕ, List, bytes_eq, Option}
use Rattle.std.specs.Map.{lookup}
use Rattle.yp_io.specs.declared.stream.Peer.{Peer}
use Rattle.yp_transfer.specs.declared.hosts.Host.{Host}

-- names and addresses, in the order in which they were added
abbrev pub HostList : Type 0
HostList = List (List ℕ × Peer)

abbrev pub host_view : Host → List ℕ × Peer
host_view host = (host.name.items, host.peer)

-- the address of the first host of a name
abbrev pub find : List ℕ → HostList → Option Peer
find name hosts = lookup (λ other. bytes_eq other name) hosts
