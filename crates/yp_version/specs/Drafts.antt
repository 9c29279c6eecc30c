-- What a builder has so far, and which rows it refuses.
use Rattle.std.specs.Prelude.{ℕ, ◌+◌, List, [], ◌∷◌, ◌++◌, length, fold, Option, Some, None}
use Rattle.std.specs.Prelude.{is_some, if◌then◌else◌, nat_le, nat_lt}
use Rattle.std.specs.Option.{option_map_or}
use Rattle.yp_version.specs.Limits.{key_max, value_max, rows_max, body_max}
use Rattle.yp_version.specs.Rows.{Row, value_of, padded, row_len, rows_len}
use Rattle.yp_version.specs.declared.builder.VersionFault.{VersionFault}
use Rattle.yp_version.specs.declared.builder.VersionFault.TheVariants.{KeyLong, ValueLong, TooManyRows, TooBig}

-- its rows stand as they were pushed
pub record Draft : Type 0 where
  pub order : ℕ
  pub master : List ℕ
  pub rows : List Row

-- a draft without rows
abbrev pub empty_draft : ℕ → List ℕ → Draft
empty_draft order master = record { order = order; master = master; rows = [] }

-- the bytes of the stored body of these rows
abbrev pub draft_len : Draft → ℕ
draft_len draft = 16 + padded (length draft.master) + rows_len draft.rows

-- why a row with a new key is refused
abbrev pub refused_new : Draft → Row → Option VersionFault
refused_new draft row =
    if nat_le rows_max (length draft.rows) then Some TooManyRows
    else if nat_lt body_max (draft_len draft + row_len row) then Some TooBig
    else None

-- why a row is refused, the first reason that applies
abbrev pub refused : Draft → Row → Option VersionFault
refused draft row =
    if nat_lt key_max (length row.0) then Some (KeyLong (length row.0))
    else if nat_lt value_max (length row.1) then Some (ValueLong (length row.1))
    else if is_some (value_of row.0 draft.rows) then None
    else refused_new draft row

-- with one more row
abbrev pub with_new : Draft → Row → Draft
with_new draft row = record draft { rows = draft.rows ++ row ∷ [] }

-- with a row whose key is new, and the same where the key is there
abbrev pub with_row : Draft → Row → Draft
with_row draft row = if is_some (value_of row.0 draft.rows) then draft else with_new draft row

-- with rows pushed in turn
abbrev pub with_rows : Draft → List Row → Draft
with_rows draft rows = fold with_row draft rows

-- the first of these rows that is refused, counted from a number, and why; each is pushed onto those before it
abbrev pub refused_from : ℕ → Draft → List Row → Option (ℕ × VersionFault)
refused_from at draft [] = None
refused_from at draft (row ∷ rows) =
    option_map_or (λ fault. Some (at, fault)) (refused draft row) (refused_from (at + 1) (with_row draft row) rows)

-- the number, from 0, of the first row that is refused, and why
abbrev pub first_refused : Draft → List Row → Option (ℕ × VersionFault)
first_refused draft rows = refused_from 0 draft rows
