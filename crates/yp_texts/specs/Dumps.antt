-- Rows as a text from which they are read again.
use Rattle.std.specs.Prelude.{ℕ, ◌+◌, Bool, not, ◌&&◌, if◌then◌else◌, List, [], ◌∷◌, ◌++◌, Option, Some, None}
use Rattle.std.specs.List.{list_any, flat_map}
use Rattle.yp_version.specs.Blanks.{is_blank}
use Rattle.yp_version.specs.Rows.{Row}
use Rattle.yp_texts.specs.declared.dumps.DumpFault.{DumpFault}
use Rattle.yp_texts.specs.declared.dumps.DumpFault.TheVariants.{KeyUnfit, ValueUnfit}
use Rattle.yp_texts.specs.Lines.{is_line_feed}

-- the line of a row: its key, a tab, and its value
abbrev pub dump_line : Row → List ℕ
dump_line row = row.0 ++ 9 ∷ row.1 ++ 10 ∷ []

abbrev pub dump_text : List Row → List ℕ
dump_text rows = flat_map dump_line rows

-- a key that has no blank and no line feed
abbrev pub is_fit_key : List ℕ → Bool
is_fit_key key = not (list_any is_blank key) && not (list_any is_line_feed key)

-- a value that has no line feed
abbrev pub is_fit_value : List ℕ → Bool
is_fit_value value = not (list_any is_line_feed value)

-- the first row whose line isn't read as that row, where they are numbered from this on
abbrev pub first_unfit : ℕ → List Row → Option DumpFault
first_unfit number [] = None
first_unfit number (row ∷ rows) =
    if is_fit_key row.0 then (if is_fit_value row.1 then first_unfit (number + 1) rows else Some (ValueUnfit number))
    else Some (KeyUnfit number)
