-- The log of a board: the versions that were shown, in the order in which they were shown.
use Rattle.std.specs.Prelude.{ℕ, ◌+◌, List, [], ◌∷◌, map, fold, Option, None, Some, if◌then◌else◌, ◌==◌}
use Rattle.yp_version.specs.Versions.{MapVersion}

-- each shown version stands with the number of its map
abbrev pub Log : Type 0
Log = List (ℕ × MapVersion)

-- the state of a map: its last version in the log, or none
abbrev pub shown : ℕ → Log → Option MapVersion
shown map log = fold (λ so_far entry. if entry.0 == map then Some entry.1 else so_far) None log

-- the log that begins with these versions, in the order of their maps, which are numbered from a number
abbrev pub starts : ℕ → List (Option MapVersion) → Log
starts map [] = []
starts map (None ∷ rest) = starts (map + 1) rest
starts map (Some version ∷ rest) = (map, version) ∷ starts (map + 1) rest
