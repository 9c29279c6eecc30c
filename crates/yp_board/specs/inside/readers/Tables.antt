-- The last versions of maps, beside the log in which they were shown.
use Rattle.std.specs.Prelude.{◌≡◌, ℕ, List, Option, None, slice_index_or}
use Rattle.yp_version.specs.Versions.{MapVersion}
use Rattle.yp_board.specs.Logs.{Log, shown}

-- for each map, by its number, the version that was shown last, or none
abbrev pub TableHolds : List (Option MapVersion) → Log → Type 0
TableHolds versions log = (map : ℕ) → slice_index_or versions map None ≡ shown map log
