-- The words of `once` are rows.
use Rattle.std.specs.Prelude.{◌≡◌, ℕ}
use Rattle.std.specs.Prelude.{Option, Some, None}
use Rattle.yp_command.specs.declared.office.status.Status.{Status}
use Rattle.yp_command.specs.declared.office.status.Status.TheVariants.{Rows}

-- the status tells the first row past a limit
abbrev pub IsRows : Option (ℕ × ℕ) → Status → Type 0
IsRows None status = ⊥
IsRows (Some fault) status = status ≡ Rows fault.0 fault.1
