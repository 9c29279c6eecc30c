-- What a `Next` says.
use Rattle.std.specs.Prelude.{◌≤◌, length, Option, Some, None, ⊤}
use Rattle.yp_version.specs.Limits.{key_max, value_max}
use Rattle.yp_version.specs.Rows.{Row as Pair}
use Rattle.yp_version.specs.declared.version.Next.{Next}
use Rattle.yp_version.specs.declared.version.Next.TheVariants.{Row, Last, Absent}

-- the row that it lends, in the form in which `following` has it
abbrev pub next_row : Next → Option (Option Pair)
next_row (Row key value) = Some (Some (key.now, value.now))
next_row Last = Some None
next_row Absent = None

-- the row that it lends is within the limits
abbrev pub IsWithin : Next → Type 0
IsWithin (Row key value) = (length key.now ≤ key_max) × (length value.now ≤ value_max)
IsWithin Last = ⊤
IsWithin Absent = ⊤
