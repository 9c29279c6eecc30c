-- Membership is decided by its value.
use Rattle.std.specs.Prelude.{ℕ, List, IsTrue, ◌↔◌}
use Rattle.yp_version.specs.Rows.{Row}
use Rattle.yp_netgroup.specs.Reach.{SoughtMember}
use Rattle.yp_netgroup.specs.inside.Reach.{IsMember}
use Rattle.yp_netgroup.specs.Decided.{is_member}

-- it is true exactly of members
abbrev pub MembershipIsDecided : Type 0
MembershipIsDecided = (rows : List Row) (group : List ℕ) (asked : SoughtMember)
    → IsTrue (is_member rows group asked) ↔ IsMember rows group asked
