-- The rows that a text makes (manuals of passwd(5), group(5), hosts(5), services(5), protocols(5) and netgroup(5)), and
-- those that stand in one.
use Rattle.std.specs.Prelude.{ℕ, Bool, true, false, not, ◌&&◌, ◌||◌, ◌==◌, if◌then◌else◌, List, map, take, drop, Option}
use Rattle.std.specs.Prelude.{Some, None, slice_index, option_map, option_to_list}
use Rattle.std.specs.List.{slice_get, list_all, flat_map, position_or_len}
use Rattle.std.specs.Option.{option_and_then}
use Rattle.yp_version.specs.Rows.{Row}
use Rattle.yp_texts.specs.declared.kind.Kind.{Kind}
use Rattle.yp_texts.specs.declared.kind.Kind.TheVariants.{PasswdByname, PasswdByuid, GroupByname, GroupBygid}
use Rattle.yp_texts.specs.declared.kind.Kind.TheVariants.{HostsByname, HostsByaddr, ServicesByname, ProtocolsBynumber}
use Rattle.yp_texts.specs.declared.kind.Kind.TheVariants.{Netgroup, Ypservers}
use Rattle.yp_texts.specs.declared.reading.Reading.{Reading}
use Rattle.yp_texts.specs.declared.reading.Reading.TheVariants.{Text, Rows}
use Rattle.yp_texts.specs.Lines.{Line, whole_lines}
use Rattle.yp_version.specs.Blanks.{is_blank, without_front_blanks}
use Rattle.yp_texts.specs.Words.{is_filled, fields, words, after_word, uncommented}

-- ---- passwd and group: the line as it stands, by one of its fields

-- a number sign, a plus or a minus
abbrev pub is_mark : ℕ → Bool
is_mark b = b == 35 || b == 43 || b == 45

-- A line is an entry where it isn't blank and doesn't begin with one of these marks.
abbrev pub is_entry : List ℕ → Bool
is_entry line = not (list_all is_blank line) && not (is_mark (slice_index line 0))

-- a row whose key isn't empty
abbrev pub filled_row : List ℕ → List ℕ → Option Row
filled_row value key = if is_filled key then Some (key, value) else None

-- by the field of this number, from 0
abbrev pub field_row : ℕ → List ℕ → Option Row
field_row number line =
    if is_entry line then option_and_then (filled_row line) (slice_get (fields line) number) else None

-- ---- the others: the uncommented line, by one of its words

-- by the word of this number, from 0
abbrev pub word_row : ℕ → List ℕ → Option Row
word_row number line = option_map (λ word. (word, line)) (slice_get (words line) number)

-- the first word, and what follows the blanks after it
abbrev pub group_row : List ℕ → Option Row
group_row line = option_map (λ word. (word, after_word line)) (slice_get (words line) 0)

-- the first word alone
abbrev pub server_row : List ℕ → Option Row
server_row line = option_map (λ word. (word, word)) (slice_get (words line) 0)

-- a row for each word from the second on, in their order
abbrev pub name_rows : List ℕ → List Row
name_rows line = map (λ word. (word, line)) (drop 1 (words line))

-- ---- rows that stand in a text

-- what follows a tab, or else what follows blanks
abbrev pub behind_blank : List ℕ → List ℕ
behind_blank rest = if slice_index rest 0 == 9 then drop 1 rest else without_front_blanks rest

-- how many bytes stand before the first blank
abbrev pub key_len : List ℕ → ℕ
key_len line = position_or_len is_blank line

-- the key, then a tab or the first run of blanks, then the value as it stands; an empty line has no row
abbrev pub plain_row : List ℕ → Option Row
plain_row line =
    if is_filled line then Some (take (key_len line) line, behind_blank (drop (key_len line) line)) else None

-- ---- by kinds

-- the rows of one line
abbrev pub rows_in : Kind → List ℕ → List Row
rows_in PasswdByname line = option_to_list (field_row 0 line)
rows_in PasswdByuid line = option_to_list (field_row 2 line)
rows_in GroupByname line = option_to_list (field_row 0 line)
rows_in GroupBygid line = option_to_list (field_row 2 line)
rows_in HostsByname line = name_rows (uncommented line)
rows_in HostsByaddr line = option_to_list (word_row 0 (uncommented line))
rows_in ServicesByname line = option_to_list (word_row 1 (uncommented line))
rows_in ProtocolsBynumber line = option_to_list (word_row 1 (uncommented line))
rows_in Netgroup line = option_to_list (group_row (uncommented line))
rows_in Ypservers line = option_to_list (server_row (uncommented line))

-- whether lines go on in the next
abbrev pub joins : Kind → Bool
joins PasswdByname = false
joins PasswdByuid = false
joins GroupByname = false
joins GroupBygid = false
joins HostsByname = false
joins HostsByaddr = false
joins ServicesByname = false
joins ProtocolsBynumber = false
joins Netgroup = true
joins Ypservers = false

-- ---- by readings

abbrev pub rows_of_line : Reading → List ℕ → List Row
rows_of_line (Text kind) line = rows_in kind line
rows_of_line Rows line = option_to_list (plain_row line)

abbrev pub goes_over_lines : Reading → Bool
goes_over_lines (Text kind) = joins kind
goes_over_lines Rows = false

-- a row with the number of its line
abbrev pub LineRow : Type 0
LineRow = ℕ × Row

abbrev pub at_line : ℕ → List Row → List LineRow
at_line line rows = map (λ row. (line, row)) rows

abbrev pub line_rows : Reading → Line → List LineRow
line_rows reading line = at_line line.0 (rows_of_line reading line.1)

-- the rows of a text whose first line has this number
abbrev pub rows_from : Reading → ℕ → List ℕ → List LineRow
rows_from reading number text = flat_map (line_rows reading) (whole_lines (goes_over_lines reading) number text)

abbrev pub rows : Reading → List ℕ → List LineRow
rows reading text = rows_from reading 1 text
