-- What a call that writes a whole piece has written, and what one that reads a whole source has read.
use Rattle.std.specs.Prelude.{ℕ, ◌≤◌, List, length, take, Option}
use Rattle.std.specs.Io.KnownBytes.{Appends}

-- a front of the piece was taken
abbrev pub AppendsFront : List ℕ → Option (List ℕ) → Option (List ℕ) → Type 0
AppendsFront piece before after = (n : ℕ) × (n ≤ length piece) × Appends before after (take n piece)
