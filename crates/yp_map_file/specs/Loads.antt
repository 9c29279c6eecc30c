-- What is loaded of a file.
use Rattle.std.specs.Prelude.{◌≡◌, Option, Some, None, Result, Ok, Err, ⊤}
use Rattle.yp_version.specs.Versions.{MapVersion}
use Rattle.yp_map_file.specs.declared.fault.SlotFault.{SlotFault}
use Rattle.yp_map_file.specs.declared.fault.SlotFault.TheVariants as fault
use Rattle.yp_map_file.specs.Stands.{Stands, Nothing, Stored, Damaged}

-- a file that stands for this was loaded, unless the disk failed or memory ran out
abbrev pub Loads : Stands → Result (Option MapVersion) SlotFault → Type 0
Loads stood (Ok None) = stood ≡ Nothing
Loads stood (Ok (Some version)) = stood ≡ Stored version
Loads stood (Err (fault.Damaged at rule)) = stood ≡ Damaged at rule
Loads stood (Err fault.DiskFault) = ⊤
Loads stood (Err fault.NoMemory) = ⊤
