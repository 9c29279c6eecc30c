-- A log between two others.
use Rattle.yp_board.specs.Logs.{Log}
use Rattle.yp_board.specs.Views.{IsFront}

-- P holds of a log from one up to another
pub record Between (first last : Log) (P : Log → Type 0) : Type 0 where
  pub log : Log
  pub begins : IsFront first log
  pub goes_on : IsFront log last
  pub holds : P log
