-- The slaves of a push: the servers of a domain but the own host (yppush).
use Rattle.std.specs.Prelude.{ℕ, List, not, map, filter, bytes_eq}
use Rattle.yp_version.specs.Rows.{Row}
use Rattle.yp_transfer.specs.HostTable.{HostList, find}
use Rattle.yp_push.specs.turns.Pushers.{Slave}

-- the keys of a map of servers but the own name, in the order of its rows, which is rising, each with its address
abbrev pub slaves_of : (own : List ℕ) → HostList → List Row → List Slave
slaves_of own hosts rows = map (λ row. (row.0, find row.0 hosts)) (filter (λ row. not (bytes_eq row.0 own)) rows)
