-- What a publisher keeps beside its maps.
use Rattle.std.specs.Prelude.{◌≡◌, ◌≤◌, ℕ, List, length}
use Rattle.yp_board.specs.Logs.{Log}
use Rattle.yp_publisher.specs.Standing.{StoredMap, versions, Shows}

-- There are as many maps on the board and in the catalogue as are kept, each version that is kept is the one that is
-- shown, and there is room for the disks once they are given back.
pub record IsPublisher {D : Type 0} (maps : List (StoredMap D)) (names : ℕ) (log : Log)
    (board_maps capacity : ℕ) : Type 0 where
  pub named : length maps ≡ names
  pub on_board : board_maps ≡ names
  pub shows : Shows log (versions maps)
  pub room : length maps ≤ capacity
