-- The rows of a reverse map that are put so far, and the refusal of one.
use Rattle.std.specs.Prelude.{◌≡◌, ⊤, ℕ, ◌+◌, All, Contains, List, length, Some, None}
use Rattle.std.specs.Map.{keys_of}
use Rattle.yp_version.specs.Rows.{Row, IsRising}
use Rattle.yp_version.specs.Drafts.{Draft, with_row, with_rows, refused, first_refused}
use Rattle.yp_version.specs.declared.builder.VersionFault.{VersionFault}
use Rattle.yp_version.specs.declared.builder.VersionFault.TheVariants.{KeyLong, ValueLong, TooManyRows, TooBig}
use Rattle.yp_version.specs.declared.builder.VersionFault.TheVariants.{NoMemory}
use Rattle.yp_netgroup.specs.declared.reverse.field.Field.{Field}
use Rattle.yp_netgroup.specs.declared.reverse.fault.RevFault.{RevFault}
use Rattle.yp_netgroup.specs.declared.reverse.fault.RevFault.TheVariants.{Row as RowFault, NoMemory as WithoutMemory}
use Rattle.yp_netgroup.specs.reverse.Reverse.{IsReversed, IsListed}
use Rattle.yp_netgroup.specs.reverse.Refused.{RefusesRow}

-- ---- faults

-- why a map isn't reversed: the first row that is refused, or want of memory
abbrev pub IsReverseCause : List Row → Field → Draft → RevFault → Type 0
IsReverseCause rows field draft (RowFault number rule) = RefusesRow rows field draft number rule
IsReverseCause rows field draft WithoutMemory = ⊤

-- ---- one row

-- the fault of the row behind so many
abbrev pub row_fault : ℕ → VersionFault → RevFault
row_fault rows (KeyLong len) = RowFault (rows + 1) 1
row_fault rows (ValueLong len) = RowFault (rows + 1) 2
row_fault rows TooManyRows = RowFault (rows + 1) 3
row_fault rows TooBig = RowFault (rows + 1) 4
row_fault rows NoMemory = WithoutMemory

-- the row of a key is put behind others, where a group has it
pub data IsPut (rows : List Row) (field : Field) (key : List ℕ) (draft : Draft) : Draft → Type 0 where
  Without : ((group : List ℕ) → IsListed rows field key group → ⊥) → IsPut rows field key draft draft
  With : (row : Row) → row.0 ≡ key → IsReversed rows field row → refused draft row ≡ None
      → IsPut rows field key draft (with_row draft row)

-- or it is refused
pub record IsReverseRefusal (rows : List Row) (field : Field) (key : List ℕ) (draft : Draft)
    (fault : RevFault) : Type 0 where
  pub row : Row
  pub at : row.0 ≡ key
  pub is : IsReversed rows field row
  pub cause : VersionFault
  pub refuses : refused draft row ≡ Some cause
  pub says : fault ≡ row_fault (length draft.rows) cause

-- ---- the rows so far

-- the rows of these keys are put, one behind the other
pub record IsSoFar (rows : List Row) (field : Field) (start draft : Draft) (keys : List (List ℕ)) : Type 0 where
  pub head : (draft.order ≡ start.order) × (draft.master ≡ start.master)
  pub same : draft ≡ with_rows start draft.rows
  pub taken : first_refused start draft.rows ≡ None
  pub rising : IsRising draft.rows
  pub each : All (IsReversed rows field) draft.rows
  pub whole : (key group : List ℕ) → Contains keys key → IsListed rows field key group
      → Contains (keys_of draft.rows) key
  pub within : (key : List ℕ) → Contains (keys_of draft.rows) key → Contains keys key

-- each key that a group has is among these
abbrev pub HasAllKeys : List Row → Field → List (List ℕ) → Type 0
HasAllKeys rows field keys = (key group : List ℕ) → IsListed rows field key group → Contains keys key

-- the rows of all keys are put, one behind the other
pub record HasAllRows (rows : List Row) (field : Field) (start draft : Draft) : Type 0 where
  pub keys : List (List ℕ)
  pub so_far : IsSoFar rows field start draft keys
  pub all : HasAllKeys rows field keys
