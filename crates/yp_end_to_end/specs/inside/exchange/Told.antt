-- Rows as a client is told them.
use Rattle.std.specs.Prelude.{ℕ, List, length, Option, Some, None, Result, Ok, Err}
use Rattle.std.specs.Option.{option_map, ok_or}
use Rattle.yp_messages.specs.declared.stat.YpStat.{YpStat}
use Rattle.yp_messages.specs.declared.stat.YpStat.TheVariants.{Nomore, Nokey}
use Rattle.yp_version.specs.Rows.{Row, first_of, following}
use Rattle.yp_version.specs.Versions.{MapVersion}
use Rattle.yp_version.specs.Drafts.{Draft}
use Rattle.yp_client.specs.declared.fault.ClientFault.TheVariants.{Yp}
use Rattle.yp_client.specs.All.{AllSaid}

-- a row as a client has it: the value, and then the key
abbrev pub turned : Row → List ℕ × List ℕ
turned row = (row.1, row.0)

-- a row, or the end of the rows
abbrev pub row_told : Option Row → Result (List ℕ × List ℕ) YpStat
row_told row = ok_or (option_map turned row) Nomore

-- the first row
abbrev pub first_in : MapVersion → Result (List ℕ × List ℕ) YpStat
first_in version = row_told (first_of version.rows)

-- the row behind the one with a key
abbrev pub next_told : Option (Option Row) → Result (List ℕ × List ℕ) YpStat
next_told (Some next) = row_told next
next_told None = Err Nokey

abbrev pub next_in : List ℕ → MapVersion → Result (List ℕ × List ℕ) YpStat
next_in key version = next_told (following key version.rows)

-- the reply to ALL, pushed onto a builder without rows
abbrev pub all_told : Draft → Result MapVersion YpStat → AllSaid
all_told draft (Ok version) =
    record { draft = record draft { rows = version.rows }; rows = length version.rows; end = Ok tt }
all_told draft (Err stat) = record { draft = draft; rows = 0; end = Err (Yp stat) }
