-- The rows of a reverse map while they are put one behind the other, and the first that a builder refuses.
use Rattle.std.specs.Prelude.{◌≡◌, ◌⊎◌, ℕ, ◌+◌, All, Contains, List, [], ◌∷◌, ◌++◌, length, Some, None}
use Rattle.std.specs.Map.{keys_of}
use Rattle.std.specs.declared.cmp.Ordering.TheVariants.{Less}
use Rattle.yp_version.specs.Rows.{Row, IsRising, key_cmp}
use Rattle.yp_version.specs.Drafts.{Draft, with_rows, refused, first_refused}
use Rattle.yp_version.specs.declared.builder.VersionFault.{VersionFault}
use Rattle.yp_version.specs.declared.builder.VersionFault.TheVariants.{KeyLong, ValueLong, TooManyRows, TooBig}
use Rattle.yp_version.specs.declared.builder.VersionFault.TheVariants.{NoMemory}
use Rattle.yp_netgroup.specs.declared.reverse.field.Field.{Field}
use Rattle.yp_netgroup.specs.reverse.Reverse.{IsReversed, IsListed}

-- ---- faults

-- the number of the limit that a row passes
abbrev pub rule_of : VersionFault → ℕ
rule_of (KeyLong len) = 1
rule_of (ValueLong len) = 2
rule_of TooManyRows = 3
rule_of TooBig = 4
rule_of NoMemory = 0

-- Of the rows of a reverse map, in rising order of their keys, those of a front were taken, and the one behind them is
-- refused. No key that a group has is left out up to it. So the groups fix these rows, and with the draft the refusal.
pub record RefusesRow (rows : List Row) (field : Field) (draft : Draft) (number rule : ℕ) : Type 0 where
  pub front : List Row
  pub row : Row
  pub fault : VersionFault
  pub rising : IsRising (front ++ row ∷ [])
  pub each : All (IsReversed rows field) (front ++ row ∷ [])
  pub whole : (key group : List ℕ) → IsListed rows field key group
      → (key_cmp row.0 key ≡ Less) ⊎ Contains (keys_of (front ++ row ∷ [])) key
  pub taken : first_refused draft front ≡ None
  pub refuses : refused (with_rows draft front) row ≡ Some fault
  pub number_is : number ≡ length front + 1
  pub rule_is : rule ≡ rule_of fault
