-- Counts of faults, as each object of the outside has one.
use Rattle.std.specs.Prelude.{ℕ, ◌+◌, ◌≤◌, min, if◌then◌else◌, is_ok, Result, OnErr}

-- the last value of a count, at which it stays
abbrev pub last_count : ℕ
last_count = 18446744073709551615

-- one more, up to the last count
abbrev pub next_count : ℕ → ℕ
next_count before = min (before + 1) last_count

-- a count and so much more, up to the last count
abbrev pub capped : ℕ → ℕ → ℕ
capped count more = min (count + more) last_count

-- A count rose, or stands at its last value.
abbrev pub HasRisen : ℕ → ℕ → Type 0
HasRisen before now = next_count before ≤ now

-- A count of faults never falls, and a failure is answered only where it rose.
pub record CountsFaults {T E : Type 0} (before now : ℕ) (result : Result T E) : Type 0 where
  pub never_falls : before ≤ now
  pub risen : OnErr result (HasRisen before now)

-- the count of faults after a call: one more where the call failed
abbrev pub faults_after : {T E : Type 0} → ℕ → Result T E → ℕ
faults_after before result = if is_ok result then before else next_count before
