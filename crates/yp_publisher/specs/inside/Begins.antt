-- A publisher that begins level with its files, and the fault of one that doesn't open.
use Rattle.std.specs.Prelude.{◌≡◌, ℕ, List, Option}
use Rattle.std.specs.List.{AllZip}
use Rattle.yp_io.specs.Disk.{History}
use Rattle.yp_map_file.specs.declared.fault.SlotFault.{SlotFault}
use Rattle.yp_map_file.specs.declared.fault.SlotFault.TheVariants as slot
use Rattle.yp_board.specs.Catalogues.{Catalogue}
use Rattle.yp_board.specs.Logs.{starts}
use Rattle.yp_board.specs.Views.{Seen}
use Rattle.yp_publisher.specs.declared.open.OpenFault.{OpenFault}
use Rattle.yp_publisher.specs.declared.open.OpenFault.TheVariants.{Refused, NoMemory}
use Rattle.yp_publisher.specs.Standing.{Published, versions}
use Rattle.yp_publisher.specs.Opens.{IsOpened}

-- Each map is level with what its disk stood for, and exactly that is shown.
pub record BeginsLevel {D : Type 0} (history : D → Option History) (faults : D → ℕ) (served : Catalogue)
    (disks : List D) (begun : Published D Seen) : Type 0 where
  pub catalogue : begun.catalogue ≡ served
  pub opened : AllZip (IsOpened history faults) disks begun.maps
  pub board : begun.board ≡ record { catalogue = served; known = starts 0 (versions begun.maps); asked = 0 }

-- why none is opened where the disk of a map isn't loaded
abbrev pub open_fault : ℕ → SlotFault → OpenFault
open_fault number slot.NoMemory = NoMemory
open_fault number slot.DiskFault = Refused number slot.DiskFault
open_fault number (slot.Damaged at rule) = Refused number (slot.Damaged at rule)
