-- How many bytes a sample's rows have.
use Rattle.std.specs.Prelude.{ℕ, ◌+◌, ◌*◌}

-- at least the bytes of the stored body of so many of them
abbrev pub samples_len : ℕ → ℕ
samples_len n = 24 + 30 * n
