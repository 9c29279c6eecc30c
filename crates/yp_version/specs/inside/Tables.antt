-- Whether a row has a key.
use Rattle.std.specs.Prelude.{ℕ, Bool, false, List}
use Rattle.std.specs.Prelude.{slice_get}
use Rattle.std.specs.Prelude.{bytes_eq}
use Rattle.std.specs.Option.{option_map_or}
use Rattle.yp_version.specs.Rows.{Row}

-- whether the row with this number has the key
abbrev pub has_key : List ℕ → List Row → ℕ → Bool
has_key key rows i = option_map_or (λ row. bytes_eq row.0 key) (slice_get rows i) false
