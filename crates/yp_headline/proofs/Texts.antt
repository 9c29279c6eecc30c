-- The rows of a text are those of its lines, whatever their numbers.
use Rattle.std.proofs.Common.{◌≡◌, ℕ, ◌+◌, Bool, true, false, cond, List, [], ◌∷◌, ◌++◌, map, refl, ap, ◌∙◌}
use Rattle.std.specs.Prelude.{flat_map}
use Rattle.std.specs.List.{enumerate_from}
use Rattle.std.proofs.lemmas.List.{map-append}
use Rattle.yp_version.specs.Rows.{Row}
use Rattle.yp_texts.specs.declared.reading.Reading.{Reading}
use Rattle.yp_texts.specs.Lines.{lines, Line, lines_from, goes_on, before_last_byte, put_before, joined, whole_lines}
use Rattle.yp_texts.specs.Rows.{rows_of_line, goes_over_lines, LineRow, at_line, line_rows, rows}
use Rattle.yp_texts.specs.Pushes.{plain}
use Rattle.yp_headline.specs.Texts.{line_before, joined_lines, text_rows}

abbrev bytes_of : List Line → List (List ℕ)
bytes_of lines = map (λ line. line.1) lines

numbered : (number : ℕ) (lines : List (List ℕ)) → bytes_of (enumerate_from number lines) ≡ lines
numbered number [] = refl
numbered number (line ∷ lines) = ap (λ (l : List (List ℕ)). line ∷ l) (numbered (number + 1) lines)

chosen : (b : Bool) (line next : Line) (both : List ℕ) (more : List Line)
    → bytes_of (cond b ((line.0, both) ∷ more) (line ∷ next ∷ more)) ≡ cond b (both ∷ bytes_of more) (line.1 ∷ next.1 ∷ bytes_of more)
chosen true line next both more = refl
chosen false line next both more = refl

put_same : (line : Line) (others : List Line) → bytes_of (put_before line others) ≡ line_before line.1 (bytes_of others)
put_same line [] = refl
put_same line (next ∷ more) = chosen (goes_on line.1) line next (before_last_byte line.1 ++ 32 ∷ next.1) more

joined_same : (lines : List Line) → bytes_of (joined lines) ≡ joined_lines (bytes_of lines)
joined_same [] = refl
joined_same (line ∷ more) = put_same line (joined more) ∙ ap (line_before line.1) (joined_same more)

whole_same : (b : Bool) (number : ℕ) (text : List ℕ)
    → bytes_of (whole_lines b number text) ≡ cond b (joined_lines (lines text)) (lines text)
whole_same true number text = joined_same (lines_from number text) ∙ ap joined_lines (numbered number (lines text))
whole_same false number text = numbered number (lines text)

unnumbered : (line : ℕ) (rows : List Row) → plain (at_line line rows) ≡ rows
unnumbered line [] = refl
unnumbered line (row ∷ rows) = ap (λ (l : List Row). row ∷ l) (unnumbered line rows)

rows_same : (reading : Reading) (lines : List Line)
    → plain (flat_map (line_rows reading) lines) ≡ flat_map (rows_of_line reading) (bytes_of lines)
rows_same reading [] = refl
rows_same reading (line ∷ lines) =
    map-append (λ (row : LineRow). row.1) (line_rows reading line) (flat_map (line_rows reading) lines)
    ∙ ap (λ (l : List Row). l ++ plain (flat_map (line_rows reading) lines)) (unnumbered line.0 (rows_of_line reading line.1))
    ∙ ap (λ (l : List Row). rows_of_line reading line.1 ++ l) (rows_same reading lines)

pub plain_rows : (reading : Reading) (text : List ℕ) → plain (rows reading text) ≡ text_rows reading text
plain_rows reading text =
    rows_same reading (whole_lines (goes_over_lines reading) 1 text)
    ∙ ap (flat_map (rows_of_line reading)) (whole_same (goes_over_lines reading) 1 text)
