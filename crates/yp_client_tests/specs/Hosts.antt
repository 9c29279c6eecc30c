-- The maps of a server that has one map of one row: hosts.byname of lab, of order 100 and the master m1.
use Rattle.std.specs.Prelude.{ℕ, List, [], ◌∷◌, codes, false}
use Rattle.yp_io.specs.declared.stream.Peer.{Peer}
use Rattle.yp_version.specs.Versions.{MapVersion}
use Rattle.yp_answer.specs.Maps.{Maps}

abbrev pub lab : List ℕ
lab = codes "lab"

abbrev pub hosts : List ℕ
hosts = codes "hosts.byname"

abbrev pub alpha : List ℕ
alpha = codes "alpha"

abbrev pub address : List ℕ
address = codes "10.0.0.1 alpha"

abbrev pub hosts_version : MapVersion
hosts_version = record { order = 100; master = codes "m1"; secure = false; rows = (alpha, address) ∷ [] }

abbrev pub hosts_maps : Maps
hosts_maps = record { catalogue = record { own = codes "m1"; maps = (lab, hosts) ∷ [] }; log = (0, hosts_version) ∷ [] }

-- a caller
abbrev pub caller : Peer
caller = record { addr = 10 ∷ 0 ∷ 0 ∷ 9 ∷ []; port = 40000 }
