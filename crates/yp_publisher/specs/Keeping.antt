-- What the disks and the board of a publisher tell, and what each call that changes a map upholds.
use Rattle.std.specs.Prelude.{◌≡◌, ◌≤◌, ℕ, Option, length}
use Rattle.yp_io.specs.Disk.{History, LeavesOnly}
use Rattle.yp_map_file.specs.Stands.{file_max}
use Rattle.yp_board.specs.Logs.{Log}
use Rattle.yp_publisher.specs.Standing.{Published, StoredMap, IsStanding, IsNumbered, OfMap, At, IsSameElsewhere}
use Rattle.yp_publisher.specs.Standing.{versions}
use Rattle.yp_publisher.specs.Standing.{Shows}

-- what a disk tells of its bytes, how often it has failed, and what was shown on a board
pub record Keeping (D B : Type 0) : Type 0 where
  pub history : D → Option History
  pub faults : D → ℕ
  pub log : B → Log

abbrev pub keeping_of : {D B : Type 0} → (D → Option History) → (D → ℕ) → (B → Log) → Keeping D B
keeping_of history faults log = record { history = history; faults = faults; log = log }

-- At each moment a crash leaves no more than the most bytes of a file.
abbrev pub LeavesFew : {D : Type 0} → (D → Option History) → StoredMap D → StoredMap D → Type 0
LeavesFew history before after =
    LeavesOnly (history before.disk) (history after.disk) (λ image. length image ≤ file_max)

-- The other maps stay as they are. What is shown of the map agrees with its file, and so does its generation.
pub record Upholds {D B : Type 0} (keeping : Keeping D B) (number : ℕ) (old new : Published D B) : Type 0 where
  pub catalogue : new.catalogue ≡ old.catalogue
  pub elsewhere : IsSameElsewhere number old.maps new.maps
  pub standing : OfMap number new.maps (IsStanding keeping.history)
  pub numbered : OfMap number new.maps (IsNumbered keeping.history)
  pub shows : Shows (keeping.log new.board) (versions new.maps)
  pub never_falls : At number old.maps new.maps (λ before after. keeping.faults before.disk ≤ keeping.faults after.disk)
  pub bound : At number old.maps new.maps (LeavesFew keeping.history)

-- no version was shown
abbrev pub IsNotShown : {D B : Type 0} → Published D B → Published D B → Type 0
IsNotShown old new = new.board ≡ old.board
