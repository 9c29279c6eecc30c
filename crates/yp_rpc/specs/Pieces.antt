-- A record that is given piece by piece.
use Rattle.std.specs.Prelude.{ℕ, Bool, false}

-- What was read of a record: the bytes and the empty fragments that its heads name, how many bytes of the present
-- fragment are still to come, whether it is the last, and the bytes of these fragments with their heads.
pub record Part : Type 0 where
  pub named : ℕ
  pub empty : ℕ
  pub left : ℕ
  pub last : Bool
  pub passed : ℕ

-- nothing was read of it
abbrev pub not_begun : Part
not_begun = record { named = 0; empty = 0; left = 0; last = false; passed = 0 }

-- a reader of records: the place at which the record begins, and what was read of it
pub record ReaderState : Type 0 where
  pub place : ℕ
  pub part : Part
