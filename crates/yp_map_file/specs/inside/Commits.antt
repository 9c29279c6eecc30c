-- A commit part by part: where a version is laid, and what each write makes of the file.
use Rattle.std.specs.Prelude.{ℕ, ◌+◌, ◌-◌, List, [], ◌∷◌, length, replicate, Option, Some, None, if◌then◌else◌, nat_lt}
use Rattle.std.specs.Prelude.{nat_le}
use Rattle.yp_io.specs.Disk.{overwritten}
use Rattle.yp_map_file.specs.declared.cells.Cell.{Cell}
use Rattle.yp_map_file.specs.declared.cells.Cell.TheVariants.{First}
use Rattle.yp_map_file.specs.declared.cells.Entry.{Entry}
use Rattle.yp_map_file.specs.Cells.{cells_len, open_gate, cell_place, is_open, winner}
use Rattle.yp_map_file.specs.inside.Cells.{other, entry_bytes}
use Rattle.yp_map_file.specs.declared.cells.Winner.{Winner}
use Rattle.yp_map_file.specs.declared.cells.Winner.TheVariants.{Nobody, Both, Only}
use Rattle.yp_map_file.specs.Commits.{winning, generation_of}

-- the cell that is written: the one that doesn't win, and the first where none wins
abbrev pub loser : Winner → Cell
loser Nobody = First
loser Both = First
loser (Only cell) = other cell

unfoldable pub target : List ℕ → Cell
target file = if nat_lt (length file) cells_len then First else loser (winner file)

-- where a body of n bytes goes: behind the cells where it fits there, else behind the winner's body
abbrev pub place_for : Option Entry → ℕ → ℕ
place_for None n = cells_len
place_for (Some winner) n = if nat_le n (winner.place - cells_len) then cells_len else winner.place + winner.len

-- the entry of a body of n bytes that follows the winner's
abbrev pub next_entry : Option Entry → ℕ → Entry
next_entry winner n = record { generation = generation_of winner + 1; place = place_for winner n; len = n }

-- a file that is shorter than the cells has two empty ones
unfoldable pub laid : List ℕ → List ℕ
laid file = if nat_lt (length file) cells_len then replicate cells_len 0 else file

-- the cell that is to be written is closed
unfoldable pub closed : List ℕ → List ℕ
closed file = if is_open (target file) file then overwritten (cell_place (target file)) (0 ∷ []) file else file

-- the body stands in the file, and its entry in the closed cell
unfoldable pub filled : List ℕ → List ℕ → List ℕ
filled body file =
    let next = next_entry (winning file) (length body) in
    overwritten (cell_place (target file) + 1) (entry_bytes next) (overwritten next.place body file)

-- that cell is open
unfoldable pub opened : List ℕ → List ℕ
opened file = overwritten (cell_place (target file)) (open_gate ∷ []) file

-- the whole commit
unfoldable pub committed : List ℕ → List ℕ → List ℕ
committed body file = opened (filled body (closed (laid file)))
