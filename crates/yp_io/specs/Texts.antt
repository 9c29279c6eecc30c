-- The texts that maps are built of.
use Rattle.std.specs.Prelude.{ℕ}

-- the most bytes of a text
abbrev pub text_max : ℕ
text_max = 33554432
