-- The names that the code has met, and what it seeks.
use Rattle.std.specs.Prelude.{◌≡◌, ℕ, ◌<◌, Bool, true, false, List, [], map, length, slice_index_or, Contains, Option}
use Rattle.std.specs.Prelude.{Some, None}
use Rattle.std.specs.Borrow.{Bor}
use Rattle.std.specs.declared.hash.RandomState.{RandomState}
use Rattle.indexmap.specs.IndexSet.{IndexSet}
use Rattle.yp_version.specs.Rows.{Row}
use Rattle.yp_netgroup.specs.Parts.{Part}
use Rattle.yp_netgroup.specs.Reach.{SoughtMember, NamesGroup, Reaches, has_fitting, members_of}

-- the names in a set, in its order
abbrev pub names_of : IndexSet (Bor (List ℕ)) RandomState → List (List ℕ)
names_of seen = map (λ name. name.now) seen.keys

-- whether one of the members is a triple that is sought; where nothing is sought, none is
abbrev pub has_sought : Option SoughtMember → List Part → Bool
has_sought None members = false
has_sought (Some asked) members = has_fitting asked members

-- Names that are met are reached, the group first. Of the first so many all names are met, and none has a triple that
-- is sought.
pub record IsMet (rows : List Row) (group : List ℕ) (sought : Option SoughtMember) (met : List (List ℕ)) (read : ℕ)
    : Type 0 where
  pub some : 0 < length met
  pub first : slice_index_or met 0 [] ≡ group
  pub reached : (name : List ℕ) → Contains met name → Reaches rows group name
  pub closed : (k : ℕ) (name : List ℕ) → k < read → NamesGroup rows (slice_index_or met k []) name → Contains met name
  pub missed : (k : ℕ) → k < read → has_sought sought (members_of rows (slice_index_or met k [])) ≡ false

-- a group that is reached has a triple that is sought
pub record MemberIsFound (rows : List Row) (group : List ℕ) (sought : Option SoughtMember) : Type 0 where
  pub via : List ℕ
  pub reached : Reaches rows group via
  pub listed : has_sought sought (members_of rows via) ≡ true
