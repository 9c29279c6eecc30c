-- What hinders a version behind the last one, and the name of its master.
use Rattle.std.specs.Prelude.{◌≡◌, ◌⊎◌, ◌≤◌, ℕ, length, ⊤, List, Option, Some, Result}
use Rattle.std.specs.Prelude.{Err}
use Rattle.yp_version.specs.Limits.{master_max}
use Rattle.yp_version.specs.Versions.{MapVersion}
use Rattle.yp_texts.specs.declared.fault.BuildFault.TheVariants.{NoMemory}
use Rattle.yp_texts.specs.declared.after.AfterFault.{AfterFault}
use Rattle.yp_texts.specs.declared.after.AfterFault.TheVariants.{Foreign, Build}
use Rattle.yp_texts.specs.After.{Hindrance, other_master, HasOther, HasFault}

-- a fault is the hindrance that is expected; memory may run out at any time
abbrev pub IsHindered : Result MapVersion Hindrance → AfterFault → Type 0
IsHindered expected (Foreign master) = expected ≡ Err (HasOther master.items)
IsHindered expected (Build fault) = (fault ≡ NoMemory) ⊎ (expected ≡ Err (HasFault fault))

-- the master that a fault tells is that of the last version, and not the own name
abbrev pub TellsMaster : List ℕ → Option MapVersion → AfterFault → Type 0
TellsMaster own last (Foreign master) = other_master own last ≡ Some master.items
TellsMaster own last (Build fault) = ⊤

-- the master that a fault tells is within its limit
abbrev pub HasShortMaster : AfterFault → Type 0
HasShortMaster (Foreign master) = length master.items ≤ master_max
HasShortMaster (Build fault) = ⊤
