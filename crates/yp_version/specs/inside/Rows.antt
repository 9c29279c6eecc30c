-- Rows whose keys differ, and a key over the last one.
use Rattle.std.specs.Prelude.{ℕ, ◌-◌, Bool, true, List, length, slice_get}
use Rattle.std.specs.Prelude.{bytes_eq}
use Rattle.std.specs.List.{IsDistinct}
use Rattle.std.specs.Map.{keys_of}
use Rattle.std.specs.Option.{option_map_or}
use Rattle.std.specs.Ordering.{is_lt}
use Rattle.yp_version.specs.Rows.{Row, key_cmp}

-- no two rows have the same key
abbrev pub HasDistinctKeys : List Row → Type 0
HasDistinctKeys rows = IsDistinct bytes_eq (keys_of rows)

-- whether a key is over that of the last row, if there is one
abbrev pub is_over_last : List ℕ → List Row → Bool
is_over_last key rows = option_map_or (λ row. is_lt (key_cmp row.0 key)) (slice_get rows (length rows - 1)) true
