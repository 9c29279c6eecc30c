-- What `listed` does to rows.
use Rattle.std.specs.Prelude.{◌≡◌, ℕ, List, IsPermutation}
use Rattle.yp_version.specs.Rows.{Row, IsRising, value_of, listed}
use Rattle.yp_version.specs.inside.Rows.{HasDistinctKeys}

-- listed rows rise
abbrev pub ListedIsRising : Type 0
ListedIsRising = (rows : List Row) → IsRising (listed rows)

-- rows with distinct keys are listed as they are, in another order
abbrev pub ListedIsPermutation : Type 0
ListedIsPermutation = (rows : List Row) → HasDistinctKeys rows → IsPermutation rows (listed rows)

-- rising rows are the list of each order of them
abbrev pub RisingIsListed : Type 0
RisingIsListed = (rows rising : List Row) → IsPermutation rows rising → IsRising rising → listed rows ≡ rising

-- rising rows are listed as they stand
abbrev pub RisingStays : Type 0
RisingStays = (rows : List Row) → IsRising rows → listed rows ≡ rows

-- a key has the same value in rows and in their list
abbrev pub ListedKeepsValues : Type 0
ListedKeepsValues = (key : List ℕ) (rows : List Row) → value_of key (listed rows) ≡ value_of key rows

-- rising rows have distinct keys
abbrev pub RisingIsDistinct : Type 0
RisingIsDistinct = (rows : List Row) → IsRising rows → HasDistinctKeys rows
