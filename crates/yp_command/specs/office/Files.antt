-- The status of a stored file that can't be loaded.
use Rattle.std.specs.Prelude.{◌≡◌, ⊤}
use Rattle.yp_map_file.specs.declared.fault.SlotFault.{SlotFault}
use Rattle.yp_map_file.specs.declared.fault.SlotFault.TheVariants as fault
use Rattle.yp_board.specs.Catalogues.{Name, name_view}
use Rattle.yp_command.specs.declared.office.status.Status.{Status}
use Rattle.yp_command.specs.declared.office.status.Status.TheVariants.{NoMemory, Damaged, DiskFault}

-- the status of a map of this name whose file can't be loaded
abbrev pub Fails : Name → SlotFault → Status → Type 0
Fails store (fault.Damaged at rule) (Damaged map at' rule') = (name_view map ≡ store) × (at' ≡ at) × (rule' ≡ rule)
Fails store fault.DiskFault (DiskFault map) = name_view map ≡ store
Fails store fault.NoMemory NoMemory = ⊤
Fails store _ _ = ⊥
