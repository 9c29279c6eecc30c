-- Rows that are made of numbers, as many as are wanted.
use Rattle.std.specs.Prelude.{ℕ, suc, zero, ◌+◌, ◌*◌, ◌%◌, ◌^◌, List, [], ◌∷◌, codes, decimal}
use Rattle.std.specs.Char.Escape.{hex_digit_at}
use Rattle.yp_version.specs.Rows.{Row}
use Rattle.yp_version.specs.Versions.{MapVersion}
use Rattle.yp_version.specs.Drafts.{with_rows, empty_draft}
use Rattle.yp_texts.specs.Builds.{finished}

-- the number after one: a linear congruence of full period (Press et al., Numerical Recipes in C, section 7.1)
abbrev pub number_after : ℕ → ℕ
number_after x = (x * 1664525 + 1013904223) % 2 ^ 32

-- `k` and the number in eight hexadecimal digits
abbrev pub sample_key : ℕ → List ℕ
sample_key x =
    107 ∷ hex_digit_at 0x1000_0000 x ∷ hex_digit_at 0x100_0000 x ∷ hex_digit_at 0x10_0000 x ∷ hex_digit_at 0x1_0000 x
    ∷ hex_digit_at 0x1000 x ∷ hex_digit_at 0x100 x ∷ hex_digit_at 0x10 x ∷ hex_digit_at 1 x ∷ []

-- `v` and the place of the row in decimal
abbrev pub sample_value : ℕ → List ℕ
sample_value i = 118 ∷ decimal i

-- rows from a place on, after a number
abbrev pub samples : ℕ → ℕ → ℕ → List Row
samples i x zero = []
samples i x (suc n) = (sample_key (number_after x), sample_value i) ∷ samples (i + 1) (number_after x) n

-- the version of so many rows after a number
abbrev pub sampled : ℕ → ℕ → MapVersion
sampled start n = finished (with_rows (empty_draft 1 (codes "sample")) (samples 0 start n))
