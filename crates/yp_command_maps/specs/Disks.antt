-- What the only disk of a command tells.
use Rattle.std.specs.Prelude.{ℕ, List, Option}
use Rattle.yp_io.specs.Disk.{History}
use Rattle.yp_command.specs.declared.office.disks.NamedDisk.{NamedDisk}
use Rattle.yp_command.specs.declared.office.office.Office.{Office}
use Rattle.yp_command.specs.office.Disks.{disks_of, only_history, total_faults}
use Rattle.yp_command.specs.office.Seeing.{Seeing}

-- what a disk tells: its history, where that is told, and how often it has failed
pub record DiskTells : Type 0 where
  pub history : Option History
  pub faults : ℕ

abbrev pub only_tells : {D : Type 0} → (D → Option History) → (D → ℕ) → List D → DiskTells
only_tells history faults disks =
    record { history = only_history history disks; faults = total_faults faults disks }

abbrev pub named_tells : {D : Type 0} → (D → Option History) → (D → ℕ) → List (NamedDisk D) → DiskTells
named_tells history faults disks = only_tells history faults (disks_of disks)

-- what the disk of an office tells
abbrev pub disk_tells : {S K D C A I T : Type 0} → Seeing S K D C A I T → Office S K D C A I T → DiskTells
disk_tells seen office = named_tells seen.disk.history seen.disk.faults office.disks.items
