-- What a session keeps between two records.
use Rattle.std.specs.Prelude.{ℕ}

-- the place up to which records were read, in bytes, and how many were read whole
pub record Progress : Type 0 where
  pub place : ℕ
  pub calls : ℕ

-- before the first record
abbrev pub begun : Progress
begun = record { place = 0; calls = 0 }
