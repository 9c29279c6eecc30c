-- The maps that are served, each named by its domain and its map, and numbered from 0.
use Rattle.std.specs.Prelude.{ℕ, ◌<◌, ◌≤◌, Bool, ◌&&◌, List, [], ◌∷◌, map, length, position, All}
use Rattle.std.specs.Prelude.{Option, bytes_eq, nat_lt, nat_le}
use Rattle.std.specs.List.{IsDistinct, list_any}
use Rattle.std.specs.Ordering.{ordering_then, match_ordering}
use Rattle.std.specs.declared.cmp.Ordering.{Ordering}
-- the most bytes of a name (`yp.x`, YPMAXDOMAIN, YPMAXMAP, YPMAXPEER)
pub use Rattle.yp_messages.specs.Numbers.{name_max}
use Rattle.yp_version.specs.Rows.{key_cmp}
use Rattle.yp_board.specs.declared.catalog.MapName.{MapName}

-- a map's name: its domain and its map
abbrev pub Name : Type 0
Name = List ℕ × List ℕ

-- the name that a `MapName` of the code has
abbrev pub name_view : MapName → Name
name_view name = (name.domain.items, name.map.items)

-- the own name, and the names of the maps in the order of their numbers
pub record Catalogue : Type 0 where
  pub own : List ℕ
  pub maps : List Name

-- the most maps
abbrev pub maps_max : ℕ
maps_max = 64

-- a name is that of this domain and this map
abbrev pub is_named : List ℕ → List ℕ → Name → Bool
is_named domain map name = bytes_eq name.0 domain && bytes_eq name.1 map

-- two names are the same
abbrev pub is_same : Name → Name → Bool
is_same a b = is_named b.0 b.1 a

-- the number of the map with this name
abbrev pub find : List ℕ → List ℕ → Catalogue → Option ℕ
find domain map catalogue = position (is_named domain map) catalogue.maps

-- some map has this domain
abbrev pub serves : List ℕ → Catalogue → Bool
serves domain catalogue = list_any (λ name. bytes_eq name.0 domain) catalogue.maps

-- A name has at least one byte, and at most the limit.
abbrev pub is_name : List ℕ → Bool
is_name bytes = nat_lt 0 (length bytes) && nat_le (length bytes) name_max

-- bytes that a part of a name may have
pub record IsName (bytes : List ℕ) : Type 0 where
  pub some : 0 < length bytes
  pub within : length bytes ≤ name_max

-- what holds of every catalogue
pub record IsCatalogue (catalogue : Catalogue) : Type 0 where
  pub own : IsName catalogue.own
  pub domains : All (λ name. IsName name.0) catalogue.maps
  pub maps : All (λ name. IsName name.1) catalogue.maps
  pub distinct : IsDistinct is_same catalogue.maps
  pub count : length catalogue.maps ≤ maps_max

-- the order of names: by the bytes of their domains, and then of their maps
abbrev pub name_cmp : Name → Name → Ordering
name_cmp a b = ordering_then (key_cmp a.0 b.0) (key_cmp a.1 b.1)

-- rising names with one more
abbrev pub inserted : Name → List Name → List Name
inserted name [] = name ∷ []
inserted name (other ∷ names) =
    match_ordering (name_cmp name other) (name ∷ other ∷ names) (name ∷ names) (other ∷ inserted name names)

-- names in rising order
abbrev pub listed : List Name → List Name
listed [] = []
listed (name ∷ names) = inserted name (listed names)
