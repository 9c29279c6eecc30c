-- Who is a member, as a value, for what is printed of it.
use Rattle.std.specs.Prelude.{ℕ, Bool, ◌||◌, ◌&&◌, List, [], ◌∷◌, bytes_eq}
use Rattle.std.specs.List.{list_any}
use Rattle.std.specs.Map.{keys_of}
use Rattle.yp_version.specs.Rows.{Row}
use Rattle.yp_netgroup.specs.Parts.{names}
use Rattle.yp_netgroup.specs.Reach.{SoughtMember, has_fitting, members_of}

-- A name is reached from a group in at most one step, or in more by way of these groups (Warshall 1962).
abbrev pub reaches_by : List Row → List (List ℕ) → List ℕ → List ℕ → Bool
reaches_by rows [] group name = bytes_eq group name || list_any (bytes_eq name) (names (members_of rows group))
reaches_by rows (via ∷ more) group name =
    reaches_by rows more group name || (reaches_by rows more group via && reaches_by rows more via name)

-- by way of any groups that have rows
abbrev pub reaches : List Row → List ℕ → List ℕ → Bool
reaches rows group name = reaches_by rows (keys_of rows) group name

-- a group that is reached, and has a row, lists a triple that fits
unfoldable pub is_member : List Row → List ℕ → SoughtMember → Bool
is_member rows group asked =
    list_any (λ via. reaches rows group via && has_fitting asked (members_of rows via)) (keys_of rows)
