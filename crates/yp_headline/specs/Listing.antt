-- The rows of a version.
use Rattle.std.specs.Prelude.{◌≡◌, ℕ, List}
use Rattle.yp_version.specs.Rows.{Row, IsRising, value_of}

-- Rows are those of a list in rising order of their keys, and of equal keys the first.
pub record AreListed (list rows : List Row) : Type 0 where
  pub rising : IsRising rows
  pub values : (key : List ℕ) → value_of key rows ≡ value_of key list
