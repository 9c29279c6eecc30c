-- How the fault of a map's file is told, with its name.
use Rattle.std.specs.Prelude.{◌≡◌, ◌⊎◌, ℕ, List, Some, slice_get}
use Rattle.yp_map_file.specs.declared.fault.SlotFault.{SlotFault}
use Rattle.yp_board.specs.Catalogues.{Name}
use Rattle.yp_command.specs.declared.office.status.Status.{Status}
use Rattle.yp_command.specs.declared.office.status.Status.TheVariants.{NoMemory}
use Rattle.yp_command.specs.office.Files.{Fails}

-- The fault of a map's file is told with its name, unless memory ran out for that.
abbrev pub TellsOf : List Name → ℕ → SlotFault → Status → Type 0
TellsOf names number why status =
    (status ≡ NoMemory) ⊎ ((store : Name) × (slice_get names number ≡ Some store) × Fails store why status)
