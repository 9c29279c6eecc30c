-- Words beside those of specs/readers/Boards.antt, which the contract of the program doesn't reach.
use Rattle.std.specs.Prelude.{ℕ}
use Rattle.yp_board.specs.Logs.{Log}

-- how many maps there are, and the versions that were shown
pub record Written : Type 0 where
  pub maps : ℕ
  pub log : Log
