-- Rows of a map: pairs of a key and a value, their order, and what is looked up in them.
use Rattle.std.specs.Prelude.{ℕ, ◌+◌, ◌-◌, ◌%◌, List, [], ◌∷◌, length, Option, Some, None}
use Rattle.std.specs.Prelude.{if◌then◌else◌, bytes_eq}
use Rattle.std.specs.Prelude.{sum_by}
use Rattle.std.specs.Cmp.Lexicographic.{slice_cmp}
use Rattle.std.specs.List.Sorted.{IsStrictlySortedBy}
use Rattle.std.specs.Map.{keys_of, lookup}
use Rattle.std.specs.Ordering.{nat_cmp, match_ordering}
use Rattle.std.specs.declared.cmp.Ordering.{Ordering}

-- a row: its key and its value
abbrev pub Row : Type 0
Row = List ℕ × List ℕ

-- the order of keys: by their bytes, and a key before the longer ones that it begins
abbrev pub key_cmp : List ℕ → List ℕ → Ordering
key_cmp = slice_cmp nat_cmp

-- each key is below those of all later rows
abbrev pub IsRising : List Row → Type 0
IsRising rows = IsStrictlySortedBy key_cmp (keys_of rows)

-- the value of the first row with this key
abbrev pub value_of : List ℕ → List Row → Option (List ℕ)
value_of key rows = lookup (λ other. bytes_eq other key) rows

-- the first row
abbrev pub first_of : List Row → Option Row
first_of [] = None
first_of (row ∷ rows) = Some row

-- what follows the row with this key: none where no row has it, `Some None` where that is the last row
abbrev pub following : List ℕ → List Row → Option (Option Row)
following key [] = None
following key (row ∷ rows) = if bytes_eq row.0 key then Some (first_of rows) else following key rows

-- rising rows with one more, which takes the place of one with its key
abbrev pub inserted : Row → List Row → List Row
inserted row [] = row ∷ []
inserted row (other ∷ rows) =
    match_ordering (key_cmp row.0 other.0) (row ∷ other ∷ rows) (row ∷ rows) (other ∷ inserted row rows)

-- rows in rising order of their keys, of equal keys the first
abbrev pub listed : List Row → List Row
listed [] = []
listed (row ∷ rows) = inserted row (listed rows)

-- bytes up to a multiple of four (RFC 4506 sections 3 and 4.10)
abbrev pub padded : ℕ → ℕ
padded n = n + (4 - n % 4) % 4

-- the bytes that a row takes in the stored body: two length words, and its key and value padded
abbrev pub row_len : Row → ℕ
row_len row = 8 + padded (length row.0) + padded (length row.1)

-- the bytes of rows in the stored body
abbrev pub rows_len : List Row → ℕ
rows_len rows = sum_by row_len rows
