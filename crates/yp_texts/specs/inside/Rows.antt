-- A row of a text, as the code has it.
use Rattle.std.specs.Prelude.{ℕ, List}
use Rattle.std.specs.Borrow.{Bor}
use Rattle.yp_version.specs.Rows.{Row}

-- a key and its value that are lent, as a row
abbrev pub row_view : Bor (List ℕ) × Bor (List ℕ) → Row
row_view lent = (lent.0.now, lent.1.now)
