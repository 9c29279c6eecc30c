-- What a caller that installs versions is charged with.
use Rattle.std.specs.Prelude.{◌≡◌, ℕ, ◌+◌, ◌≤◌}

-- how many files failed for it, how many built versions were shown, and how many fetched versions it has and hasn't
-- installed. It has so many parts of the right to be charged.
pub record Debit : Type 0 where
  pub parts : ℕ
  pub failures : ℕ
  pub made : ℕ
  pub versions : ℕ

abbrev pub no_debit : ℕ → Debit
no_debit parts = record { parts = parts; failures = 0; made = 0; versions = 0 }

abbrev pub debit_both : Debit → Debit → Debit
debit_both one other = record {
  parts = one.parts + other.parts;
  failures = one.failures + other.failures;
  made = one.made + other.made;
  versions = one.versions + other.versions;
}

-- At least this many failed files and built versions were added to a debit, and exactly this many fetched versions were
-- taken from it.
pub record DebitIsCharged (failures made versions : ℕ) (old new : Debit) : Type 0 where
  pub parts : new.parts ≡ old.parts
  pub failures_are : old.failures + failures ≤ new.failures
  pub made_are : old.made + made ≤ new.made
  pub versions_are : new.versions + versions ≡ old.versions
