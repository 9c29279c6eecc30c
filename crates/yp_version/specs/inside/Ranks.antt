-- The order of rows by the first bytes of their keys, and by their whole keys where these are the same.
use Rattle.std.specs.Prelude.{ℕ, List, [], ◌∷◌, slice_index}
use Rattle.std.specs.Int.{w64, from_be_bytes}
use Rattle.std.specs.Ordering.{nat_cmp, ordering_then}
use Rattle.std.specs.declared.cmp.Ordering.{Ordering}
use Rattle.yp_version.specs.Rows.{key_cmp}
use Rattle.yp_version.specs.inside.Slabs.{key_from}
use Rattle.yp_version.specs.declared.ranks.Ranked.{Ranked}

-- the first eight bytes of a key as a number, with zeros behind a shorter one
unfoldable pub front_of : List ℕ → ℕ
front_of key = from_be_bytes w64
    (slice_index key 0 ∷ slice_index key 1 ∷ slice_index key 2 ∷ slice_index key 3
    ∷ slice_index key 4 ∷ slice_index key 5 ∷ slice_index key 6 ∷ slice_index key 7 ∷ [])

-- the row at a place
abbrev pub ranked_at : List ℕ → ℕ → Ranked
ranked_at bytes place = record { front = front_of (key_from bytes place); place = place }

abbrev pub rank_cmp : List ℕ → Ranked → Ranked → Ordering
rank_cmp bytes a b =
    ordering_then (nat_cmp a.front b.front) (key_cmp (key_from bytes a.place) (key_from bytes b.place))
