-- A version that is built of a text.
use Rattle.std.specs.Prelude.{ℕ, ◌+◌, ◌==◌, max, if◌then◌else◌, List, Option, Some, None, Result, Ok, Err}
use Rattle.std.specs.Option.{option_map_or}
use Rattle.yp_version.specs.Rows.{listed}
use Rattle.yp_version.specs.Versions.{MapVersion, unmarked}
use Rattle.yp_version.specs.Drafts.{Draft, empty_draft, with_rows}
use Rattle.yp_texts.specs.declared.reading.Reading.{Reading}
use Rattle.yp_texts.specs.declared.fault.BuildFault.{BuildFault}
use Rattle.yp_texts.specs.declared.fault.BuildFault.TheVariants.{OrderSpent}
use Rattle.yp_texts.specs.Rows.{LineRow, rows}
use Rattle.yp_texts.specs.Pushes.{plain, first_fault}

-- the last order
abbrev pub order_max : ℕ
order_max = 4294967295

-- the order of a new version: the moment, and over the last one
abbrev pub order_after : Option ℕ → ℕ → Option ℕ
order_after None now = Some now
order_after (Some previous) now = if previous == order_max then None else Some (max (previous + 1) now)

-- the version of a draft
abbrev pub finished : Draft → MapVersion
finished draft = unmarked draft.order draft.master (listed draft.rows)

-- the version of a draft with these rows, or why the first of them that is refused is
abbrev pub filled : Draft → List LineRow → Result MapVersion BuildFault
filled draft rows =
    option_map_or (λ fault. Err fault) (first_fault draft rows) (Ok (finished (with_rows draft (plain rows))))

-- the version that a text makes: the first row of each key, that master, and a raised order
abbrev pub built : Reading → List ℕ → Option ℕ → ℕ → List ℕ → Result MapVersion BuildFault
built reading text previous now master =
    option_map_or (λ order. filled (empty_draft order master) (rows reading text)) (order_after previous now)
    (Err OrderSpent)
