-- The limits of a reply that a client reads, in bytes.
use Rattle.std.specs.Prelude.{ℕ}

-- the most bytes of a reply, and of a call
abbrev pub reply_max : ℕ
reply_max = 262144

-- the most bytes of a reply of ALL, which is read piece by piece
abbrev pub all_max : ℕ
all_max = 33554432
