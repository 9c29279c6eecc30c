-- Where a key stands among rows.
use Rattle.std.specs.Prelude.{◌≡◌, ℕ, ◌+◌, ◌<◌, List, length, slice_get, Some, None, option_map}
use Rattle.yp_version.specs.Rows.{Row, value_of, following}

-- the row with this number has the key
pub record StandsAt (key : List ℕ) (rows : List Row) (i : ℕ) : Type 0 where
  pub within : i < length rows
  pub value : value_of key rows ≡ option_map (λ row. row.1) (slice_get rows i)
  pub next : following key rows ≡ Some (slice_get rows (i + 1))

-- no row has the key
pub record IsAbsent (key : List ℕ) (rows : List Row) : Type 0 where
  pub value : value_of key rows ≡ None
  pub next : following key rows ≡ None
