-- What is kept of a map while it is reversed: under names the groups that name them, and under keys those that list
-- them.
use Rattle.std.specs.Prelude.{ℕ, List, [], ◌∷◌, map, flat_map, Option, Some, None, bytes_eq}
use Rattle.std.specs.Prelude.{if◌then◌else◌, Vec}
use Rattle.std.specs.Borrow.{Bor}
use Rattle.std.specs.declared.alloc.Global.{Global}
use Rattle.std.specs.declared.hash.RandomState.{RandomState}
use Rattle.indexmap.specs.IndexMap.{IndexMap, get_by}
use Rattle.yp_version.specs.Rows.{Row}
use Rattle.yp_netgroup.specs.Parts.{Part, Includes, Lists, parts, names}
use Rattle.std.specs.List.{filter_map}
use Rattle.yp_netgroup.specs.declared.reverse.field.Field.{Field}
use Rattle.yp_netgroup.specs.reverse.Keys.{counts, key_of}

-- a group under a name or a key
abbrev pub Link : Type 0
Link = List ℕ × List ℕ

-- the group of a link, where it is under this name
abbrev pub source : List ℕ → Link → List (List ℕ)
source name link = if bytes_eq link.0 name then link.1 ∷ [] else []

-- the groups under a name, in their order
abbrev pub sources : List ℕ → List Link → List (List ℕ)
sources name links = flat_map (source name) links

-- a group is under each name that its text has
abbrev pub naming_text : List ℕ → List ℕ → List Link
naming_text text group = map (λ name. (name, group)) (names (parts text))

abbrev pub naming : List Row → List Link
naming rows = flat_map (λ row. naming_text row.1 row.0) rows

-- and under each key of its triples that count
abbrev pub key_in : Field → Part → Option (List ℕ)
key_in field (Includes name) = None
key_in field (Lists triple) = if counts field triple then Some (key_of field triple) else None

abbrev pub listing_members : Field → List Part → List ℕ → List Link
listing_members field members group = map (λ key. (key, group)) (filter_map (key_in field) members)

abbrev pub listing : Field → List Row → List Link
listing field rows = flat_map (λ row. listing_members field (parts row.1) row.0) rows

-- ---- what the code has

abbrev pub LinkTable : Type 0
LinkTable = IndexMap (Bor (List ℕ)) (Vec (Bor (List ℕ)) Global) RandomState

-- names that are lent, in bytes
abbrev pub bytes_in : List (Bor (List ℕ)) → List (List ℕ)
bytes_in names = map (λ name. name.now) names

abbrev pub bytes_of : Option (Vec (Bor (List ℕ)) Global) → List (List ℕ)
bytes_of None = []
bytes_of (Some groups) = bytes_in groups.items

-- the groups under a name
abbrev pub under : LinkTable → List ℕ → List (List ℕ)
under table name = bytes_of (get_by (λ other. bytes_eq name other.now) table)
