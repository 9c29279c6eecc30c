-- The bytes of a cell, and the other of the two.
use Rattle.std.specs.Prelude.{ℕ, ◌+◌, List, ◌++◌, replicate}
use Rattle.std.specs.Int.{w64, to_be_bytes}
use Rattle.yp_map_file.specs.declared.cells.Cell.{Cell}
use Rattle.yp_map_file.specs.declared.cells.Cell.TheVariants.{First, Second}
use Rattle.yp_map_file.specs.declared.cells.Entry.{Entry}

abbrev pub other : Cell → Cell
other First = Second
other Second = First

-- a cell's bytes behind the first, for these numbers
abbrev pub entry_bytes : Entry → List ℕ
entry_bytes numbers =
    replicate 7 0 ++ to_be_bytes w64 numbers.generation ++ to_be_bytes w64 numbers.place ++ to_be_bytes w64 numbers.len
