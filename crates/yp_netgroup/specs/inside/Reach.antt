-- How a search has spread from group to group, and who is a member by it.
use Rattle.std.specs.Prelude.{◌≡◌, ℕ, List, Contains, ◌↔◌}
use Rattle.std.specs.Prelude.{Some, IsTrue, slice_get, bytes_eq}
use Rattle.std.specs.List.{IsDistinct}
use Rattle.yp_version.specs.Rows.{Row}
use Rattle.yp_netgroup.specs.Reach.{members_of, Reaches, SoughtMember, has_fitting}

-- ---- groups

-- exactly the groups that are reached, the group first, and each once
pub record IsSpread (rows : List Row) (group : List ℕ) (spread : List (List ℕ)) : Type 0 where
  pub first : slice_get spread 0 ≡ Some group
  pub once : IsDistinct bytes_eq spread
  pub exactly : (name : List ℕ) → Contains spread name ↔ Reaches rows group name

-- ---- membership

-- a group that is reached lists a triple that fits
pub record IsMember (rows : List Row) (group : List ℕ) (asked : SoughtMember) : Type 0 where
  pub via : List ℕ
  pub reached : Reaches rows group via
  pub listed : IsTrue (has_fitting asked (members_of rows via))
