-- The rows of a reverse netgroup map: for each key, the groups that reach a triple with it.
use Rattle.std.specs.Prelude.{◌≡◌, ℕ, ◌<◌, Bool, not, ◌&&◌, ◌==◌, IsTrue, All, Contains, ◌↔◌, List, length}
use Rattle.std.specs.List.{list_all, join_with_byte}
use Rattle.std.specs.List.Sorted.{IsStrictlySortedBy}
use Rattle.std.specs.Map.{keys_of}
use Rattle.yp_version.specs.Rows.{Row, IsRising, key_cmp}
use Rattle.yp_netgroup.specs.Parts.{is_name_byte}
use Rattle.yp_netgroup.specs.Reach.{Reaches, members_of}
use Rattle.yp_netgroup.specs.declared.reverse.field.Field.{Field}
use Rattle.yp_netgroup.specs.reverse.Keys.{has_key}

-- a name that a text can spell
abbrev pub is_name : List ℕ → Bool
is_name name = not (length name == 0) && list_all is_name_byte name

-- a group reaches one that lists a triple which counts and has this key
pub record HasKey (rows : List Row) (field : Field) (key group : List ℕ) : Type 0 where
  pub via : List ℕ
  pub reached : Reaches rows group via
  pub listed : IsTrue (has_key field key (members_of rows via))

-- a group of the map whose name a text can spell, and which has a key
pub record IsListed (rows : List Row) (field : Field) (key group : List ℕ) : Type 0 where
  pub row : Contains (keys_of rows) group
  pub name : IsTrue (is_name group)
  pub has : HasKey rows field key group

-- the value of a key: the groups that have it, of which there is one, in rising order with commas between
pub record IsReversed (rows : List Row) (field : Field) (row : Row) : Type 0 where
  pub groups : List (List ℕ)
  pub some : 0 < length groups
  pub rising : IsStrictlySortedBy key_cmp groups
  pub exactly : (group : List ℕ) → Contains groups group ↔ IsListed rows field row.0 group
  pub value : row.1 ≡ join_with_byte 44 groups

-- a row for each key that a group has, and for no other
pub record IsReverse (rows : List Row) (field : Field) (reverse : List Row) : Type 0 where
  pub rising : IsRising reverse
  pub each : All (IsReversed rows field) reverse
  pub whole : (key group : List ℕ) → IsListed rows field key group → Contains (keys_of reverse) key
