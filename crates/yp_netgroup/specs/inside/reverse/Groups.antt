-- The groups of a key, as they are found.
use Rattle.std.specs.Prelude.{◌≡◌, ℕ, List, Contains, ◌↔◌}
use Rattle.std.specs.List.Sorted.{IsStrictlySortedBy}
use Rattle.yp_version.specs.Rows.{Row, IsRising, key_cmp}
use Rattle.yp_netgroup.specs.declared.reverse.field.Field.{Field}
use Rattle.yp_netgroup.specs.inside.reverse.Links.{Link, LinkTable, under, sources, naming, listing}
use Rattle.yp_netgroup.specs.reverse.Reverse.{IsListed}

-- What is read of a map, whose rows rise: under each name the groups that name it, and a link for each triple that
-- counts, from its key to the group that lists it.
pub record IsReadOf (rows : List Row) (field : Field) (named : LinkTable) (listings : List Link) : Type 0 where
  pub rising : IsRising rows
  pub by_name : (name : List ℕ) → under named name ≡ sources name (naming rows)
  pub all : listings ≡ listing field rows

-- What is kept of a map, whose rows rise: under each name the groups that name it, and under each key those that list
-- it.
pub record IsKeptOf (rows : List Row) (field : Field) (named listed : LinkTable) : Type 0 where
  pub rising : IsRising rows
  pub by_name : (name : List ℕ) → under named name ≡ sources name (naming rows)
  pub by_key : (key : List ℕ) → under listed key ≡ sources key (listing field rows)

-- exactly the groups that have a key, in rising order
pub record IsGroups (rows : List Row) (field : Field) (key : List ℕ) (groups : List (List ℕ)) : Type 0 where
  pub rising : IsStrictlySortedBy key_cmp groups
  pub exactly : (group : List ℕ) → Contains groups group ↔ IsListed rows field key group
