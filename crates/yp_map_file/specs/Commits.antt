-- A commit: what each of its parts makes of the bytes of a file.
use Rattle.std.specs.Prelude.{ℕ, List, length, Option, Some, None, if◌then◌else◌, nat_lt}
use Rattle.yp_map_file.specs.declared.cells.Entry.{Entry}
use Rattle.yp_map_file.specs.Cells.{cells_len, entry, winner}
use Rattle.yp_map_file.specs.declared.cells.Winner.{Winner}
use Rattle.yp_map_file.specs.declared.cells.Winner.TheVariants.{Nobody, Both, Only}

-- the entry of the cell that wins, if one does
abbrev pub winner_entry : Winner → List ℕ → Option Entry
winner_entry Nobody file = None
winner_entry Both file = None
winner_entry (Only cell) file = Some (entry cell file)

unfoldable pub winning : List ℕ → Option Entry
winning file = if nat_lt (length file) cells_len then None else winner_entry (winner file) file

-- the winner's generation, and 0 where none wins
abbrev pub generation_of : Option Entry → ℕ
generation_of None = 0
generation_of (Some winner) = winner.generation

-- the last generation
abbrev pub generation_max : ℕ
generation_max = 18446744073709551615
