-- What the bytes of a store file stand for.
use Rattle.std.specs.Prelude.{ℕ, ◌+◌, Bool, ◌&&◌, List, length, Option, Some, None, Result, Ok, Err, if◌then◌else◌}
use Rattle.std.specs.Prelude.{nat_lt, nat_le}
use Rattle.yp_xdr.specs.Reading.{first_nonzero}
use Rattle.yp_version.specs.Limits.{body_max}
use Rattle.yp_version.specs.Versions.{MapVersion}
use Rattle.yp_map_file.specs.declared.cells.Entry.{Entry}
use Rattle.yp_map_file.specs.Cells.{cells_len, bytes_at, cell_place, filler, entry, winner}
use Rattle.yp_map_file.specs.declared.cells.Winner.{Winner}
use Rattle.yp_map_file.specs.declared.cells.Winner.TheVariants.{Nobody, Both, Only}
use Rattle.yp_map_file.specs.declared.wrong.Wrong.{Wrong}
use Rattle.yp_map_file.specs.Bodies.{body_at}

-- the most bytes of a file: both cells, and three of the largest bodies
abbrev pub file_max : ℕ
file_max = 50331712

-- what the bytes of a file stand for: nothing, a version, or damaged at a place by a rule
pub data Stands : Type 0 where
  Nothing : Stands
  Stored : MapVersion → Stands
  Damaged : (at rule : ℕ) → Stands

-- whether an entry's body lies behind the cells, within a file of this length
abbrev pub has_room : Entry → ℕ → Bool
has_room numbers size =
    nat_le cells_len numbers.place && nat_lt 0 numbers.len && nat_le numbers.len body_max
    && nat_le (numbers.place + numbers.len) size

-- rules 5 to 9: the body, at its place
abbrev pub by_body : ℕ → Result MapVersion Wrong → Stands
by_body place (Ok version) = Stored version
by_body place (Err wrong) = Damaged (place + wrong.at) wrong.rule

-- rule 4: the entry has no room for its body
unfoldable pub by_entry : ℕ → Entry → List ℕ → Stands
by_entry cell numbers file =
    if has_room numbers (length file)
    then by_body numbers.place (body_at (bytes_at numbers.place numbers.len file))
    else Damaged (cell + 16) 4

-- rule 3: a byte behind the winner's first isn't zero
abbrev pub by_filler : ℕ → Option ℕ → Stands → Stands
by_filler cell None stands = stands
by_filler cell (Some n) stands = Damaged (cell + 1 + n) 3

-- rule 2: both cells are open, with one generation
unfoldable pub by_winner : Winner → List ℕ → Stands
by_winner Nobody file = Nothing
by_winner Both file = Damaged 32 2
by_winner (Only cell) file =
    by_filler (cell_place cell) (first_nonzero (filler cell file))
    (by_entry (cell_place cell) (entry cell file) file)

-- rule 1: the file is over the most bytes; a file that is shorter than the cells meets no other rule
unfoldable pub stands : List ℕ → Stands
stands file =
    if nat_lt file_max (length file) then Damaged file_max 1
    else if nat_lt (length file) cells_len then Nothing
    else by_winner (winner file) file
