-- The two cells at the head of a store file, and which of them wins. The layout is this project's own.
use Rattle.std.specs.Prelude.{ℕ, ◌+◌, Bool, List, take, drop, slice_index, if◌then◌else◌, ◌==◌, nat_lt}
use Rattle.std.specs.Int.{w64, from_be_bytes}
use Rattle.yp_map_file.specs.declared.cells.Cell.{Cell}
use Rattle.yp_map_file.specs.declared.cells.Cell.TheVariants.{First, Second}
use Rattle.yp_map_file.specs.declared.cells.Entry.{Entry}
use Rattle.yp_map_file.specs.declared.cells.Winner.{Winner}
use Rattle.yp_map_file.specs.declared.cells.Winner.TheVariants.{Nobody, Both, Only}

-- the bytes of both cells
abbrev pub cells_len : ℕ
cells_len = 64

-- the first byte of a cell whose body counts
abbrev pub open_gate : ℕ
open_gate = 1

-- n bytes from a place on
unfoldable pub bytes_at : ℕ → ℕ → List ℕ → List ℕ
bytes_at at n file = take n (drop at file)

-- eight bytes as a number, the highest first
abbrev pub number_at : ℕ → List ℕ → ℕ
number_at at file = from_be_bytes w64 (bytes_at at 8 file)

-- the place of a cell
abbrev pub cell_place : Cell → ℕ
cell_place First = 0
cell_place Second = 32

-- whether a cell's first byte is 1
unfoldable pub is_open : Cell → List ℕ → Bool
is_open cell file = slice_index file (cell_place cell) == open_gate

-- the seven bytes behind it
unfoldable pub filler : Cell → List ℕ → List ℕ
filler cell file = bytes_at (cell_place cell + 1) 7 file

-- and the three numbers behind them
unfoldable pub entry : Cell → List ℕ → Entry
entry cell file = record {
  generation = number_at (cell_place cell + 8) file;
  place = number_at (cell_place cell + 16) file;
  len = number_at (cell_place cell + 24) file;
}

-- of two open cells that one wins which has the greater generation
abbrev pub greater : ℕ → ℕ → Winner
greater first second = if first == second then Both else if nat_lt second first then Only First else Only Second

-- which cell wins
unfoldable pub winner : List ℕ → Winner
winner file =
    if is_open First file
    then (
    if is_open Second file then greater (entry First file).generation (entry Second file).generation
    else Only First
    )
    else (if is_open Second file then Only Second else Nobody)
