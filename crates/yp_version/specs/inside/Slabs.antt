-- A slab: bytes that stand before rows, and behind them the rows, each spelled as in the body of a version.
use Rattle.std.specs.Prelude.{◌≡◌, ℕ, ◌+◌, ◌≤◌, List, [], ◌∷◌, ◌++◌, length, take, drop, All}
use Rattle.std.specs.Prelude.{Some, slice_get, slice_index_or}
use Rattle.std.specs.List.{flat_map}
use Rattle.std.specs.Int.{w32, from_be_bytes}
use Rattle.yp_version.specs.Limits.{key_max, value_max, body_max}
use Rattle.yp_version.specs.Rows.{Row, padded, row_len}
use Rattle.yp_version.specs.inside.Bodies.{row_bytes}

-- what a slab holds
pub record Packed : Type 0 where
  pub head : List ℕ
  pub rows : List Row

-- the bytes behind the first word, as many as it says
abbrev pub counted : List ℕ → List ℕ
counted bytes = take (from_be_bytes w32 (take 4 bytes)) (drop 4 bytes)

-- the bytes that are spelled from a place on
unfoldable pub opaque_from : List ℕ → ℕ → List ℕ
opaque_from bytes place = counted (drop place bytes)

-- the key that is spelled from a place on
abbrev pub key_from : List ℕ → ℕ → List ℕ
key_from bytes place = opaque_from bytes place

-- the value behind it
abbrev pub value_from : List ℕ → ℕ → List ℕ
value_from bytes place = opaque_from bytes (place + (4 + padded (length (key_from bytes place))))

-- the row that is spelled from a place on
abbrev pub row_from : List ℕ → ℕ → Row
row_from bytes place = (key_from bytes place, value_from bytes place)

-- a row stands at a place as it is spelled in the body of a version
pub record IsRowAt (bytes : List ℕ) (place : ℕ) : Type 0 where
  pub key : length (key_from bytes place) ≤ key_max
  pub value : length (value_from bytes place) ≤ value_max
  pub spelled : take (row_len (row_from bytes place)) (drop place bytes) ≡ row_bytes (row_from bytes place)

-- Rows stand at these places, and each ends where the next one begins, or where the bytes end.
pub record AreRowsAt (bytes places : List ℕ) : Type 0 where
  pub there : All (IsRowAt bytes) places
  pub ends : (i place : ℕ) → slice_get places i ≡ Some place
      → slice_index_or places (i + 1) (length bytes) ≡ place + row_len (row_from bytes place)

-- the places of rows, of which the first stands here
abbrev pub places_from : ℕ → List Row → List ℕ
places_from at [] = []
places_from at (row ∷ rows) = at ∷ places_from (at + row_len row) rows

-- the rows keep the limits
pub record KeepsLimits (rows : List Row) : Type 0 where
  pub keys : All (λ row. length row.0 ≤ key_max) rows
  pub values : All (λ row. length row.1 ≤ value_max) rows

-- bytes are what a slab holds, and its rows stand at these places
pub record Lies (all starts : List ℕ) (packed : Packed) : Type 0 where
  pub within : KeepsLimits packed.rows
  pub bytes : all ≡ packed.head ++ flat_map row_bytes packed.rows
  pub places : starts ≡ places_from (length packed.head) packed.rows
  pub small : length all ≤ body_max
