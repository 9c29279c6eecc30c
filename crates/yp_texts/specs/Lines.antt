-- The lines of a text, with their numbers (manuals of passwd(5), hosts(5), netgroup(5)). A text is any bytes.
use Rattle.std.specs.Prelude.{ℕ, ◌-◌, Bool, ◌==◌, if◌then◌else◌, List, [], ◌∷◌, ◌++◌, length, take, slice_index}
use Rattle.std.specs.List.{slice_split, enumerate_from}

abbrev pub is_line_feed : ℕ → Bool
is_line_feed b = b == 10

-- A last piece that is empty is no line.
abbrev pub without_empty_end : List (List ℕ) → List (List ℕ)
without_empty_end [] = []
without_empty_end (piece ∷ []) = if length piece == 0 then [] else piece ∷ []
without_empty_end (piece ∷ next ∷ more) = piece ∷ without_empty_end (next ∷ more)

-- the pieces between line feeds, and a last one without a line feed
abbrev pub lines : List ℕ → List (List ℕ)
lines text = without_empty_end (slice_split is_line_feed text)

-- a line: its number and its bytes
abbrev pub Line : Type 0
Line = ℕ × List ℕ

abbrev pub lines_from : ℕ → List ℕ → List Line
lines_from number text = enumerate_from number (lines text)

-- ---- continuation lines, as netgroup texts have them

-- the last byte is a backslash
abbrev pub goes_on : List ℕ → Bool
goes_on line = slice_index line (length line - 1) == 92

abbrev pub before_last_byte : List ℕ → List ℕ
before_last_byte line = take (length line - 1) line

-- A line before others. Where it goes on, it is one line with the first of them, in which the backslash and the line
-- feed are one space, and it keeps its number.
abbrev pub put_before : Line → List Line → List Line
put_before line [] = line ∷ []
put_before line (next ∷ more) =
    if goes_on line.1 then (line.0, before_last_byte line.1 ++ 32 ∷ next.1) ∷ more else line ∷ next ∷ more

abbrev pub joined : List Line → List Line
joined [] = []
joined (line ∷ more) = put_before line (joined more)

-- the lines of a text, joined or as they are
abbrev pub whole_lines : Bool → ℕ → List ℕ → List Line
whole_lines joins number text = if joins then joined (lines_from number text) else lines_from number text
