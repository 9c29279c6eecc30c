-- How the rows of a reply of ALL grow, one by one.
use Rattle.std.specs.Prelude.{◌≡◌, List, None}
use Rattle.yp_version.specs.Rows.{Row}
use Rattle.yp_version.specs.Drafts.{Draft, with_rows, first_refused}

-- A builder has some more rows, of which none was refused.
abbrev pub Grows : Draft → Draft → Type 0
Grows before after = (rows : List Row) × (after ≡ with_rows before rows) × (first_refused before rows ≡ None)
