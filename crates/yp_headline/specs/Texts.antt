-- The rows that a text makes, without the numbers of its lines.
use Rattle.std.specs.Prelude.{ℕ, if◌then◌else◌, List, [], ◌∷◌, ◌++◌, flat_map}
use Rattle.yp_version.specs.Rows.{Row}
use Rattle.yp_texts.specs.declared.reading.Reading.{Reading}
use Rattle.yp_texts.specs.Lines.{lines, goes_on, before_last_byte}
use Rattle.yp_texts.specs.Rows.{rows_of_line, goes_over_lines}

-- A line before others. Where it goes on it is one with the first of them, with a space for backslash and line feed.
abbrev pub line_before : List ℕ → List (List ℕ) → List (List ℕ)
line_before line [] = line ∷ []
line_before line (next ∷ more) =
    if goes_on line then (before_last_byte line ++ 32 ∷ next) ∷ more else line ∷ next ∷ more

abbrev pub joined_lines : List (List ℕ) → List (List ℕ)
joined_lines [] = []
joined_lines (line ∷ more) = line_before line (joined_lines more)

-- the rows of the lines of a text, joined or as they are
abbrev pub text_rows : Reading → List ℕ → List Row
text_rows reading text =
    flat_map (rows_of_line reading) (if goes_over_lines reading then joined_lines (lines text) else lines text)
