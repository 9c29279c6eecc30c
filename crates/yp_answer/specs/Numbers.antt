-- The limits of what is sent.
use Rattle.std.specs.Prelude.{ℕ}

-- the most bytes of a call's record
abbrev pub record_max : ℕ
record_max = 262144
