-- A publisher over a plain board that is opened over the disks of its maps.
use Rattle.std.specs.Prelude.{◌≢◌, ◌≤◌, ℕ, List, Option}
use Rattle.std.specs.List.{AllZip}
use Rattle.yp_io.specs.Disk.{History}
use Rattle.yp_map_file.specs.declared.fault.SlotFault.TheVariants as slot
use Rattle.yp_board.specs.Logs.{Log}
use Rattle.yp_board.specs.Views.{Seen}
use Rattle.yp_publisher.specs.declared.open.OpenFault.{OpenFault}
use Rattle.yp_publisher.specs.declared.open.OpenFault.TheVariants.{Refused, NoMemory}
use Rattle.yp_publisher.specs.Opens.{OpeningStopped, LeavesNoMore}

-- what was shown on a plain board
abbrev pub plain_log : Seen → Log
plain_log board = board.known

-- what comes of a disk that was opened, was refused or wasn't called: no crash leaves what none might have left before
pub record IsUnwritten {D : Type 0} (history : D → Option History) (faults : D → ℕ) (before after : D) : Type 0 where
  pub moments : LeavesNoMore history before after
  pub never_falls : faults before ≤ faults after

-- Why none is opened: the disk of this map was refused, the first one, or memory ran out.
abbrev pub IsUnopened : {D : Type 0} → (D → Option History) → (D → ℕ) → OpenFault → List D → List D → Type 0
IsUnopened history faults (Refused number fault) old new =
    (fault ≢ slot.NoMemory) × OpeningStopped history faults old new number fault
IsUnopened history faults NoMemory old new = AllZip (IsUnwritten history faults) old new
