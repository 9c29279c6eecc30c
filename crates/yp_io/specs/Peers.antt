-- Peers by their addresses.
use Rattle.std.specs.Prelude.{ℕ, List, [], ◌∷◌}

-- the address of a caller on the own host (RFC 1122 section 3.2.1.3)
abbrev pub own_host : List ℕ
own_host = 127 ∷ 0 ∷ 0 ∷ 1 ∷ []
