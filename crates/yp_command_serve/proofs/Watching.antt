-- What a witness saw of a session over a board.
use Rattle.std.proofs.Common.{List, refl}
use Rattle.yp_board.specs.Views.{Seen}
use Rattle.yp_answer.specs.Served.{AreServed, maps_on}
use Rattle.yp_answer.specs.declared.session.session.End.{End}
use Rattle.yp_answer.specs.declared.session.session.End.TheVariants as ends
use Rattle.yp_answer.specs.declared.session.session.TheConstants.{CALLS_MAX}
use Rattle.yp_answer.specs.session.Progress.{Progress, begun}
use Rattle.yp_answer.specs.session.Wires.{Wire}
use Rattle.yp_answer.specs.session.Runs.{Runs}
use Rattle.yp_answer.specs.session.Runs.{dialogue_at}
use Rattle.yp_command.specs.Words.{nobody}
use Rattle.yp_command_serve.specs.Served.{RecordsAreAnswered, IsWatched, Fixed, fixed, fixed_conduct, status_of}

module _ (board : Seen) (finish : Fixed) (served : AreServed (maps_on board.catalogue finish.board.known)) (progress : Progress) (old new : Wire) (wires : List Wire) where
  answered : (end : End) → Runs fixed_conduct nobody CALLS_MAX end (dialogue_at (fixed board) old begun) (dialogue_at finish new progress) wires → RecordsAreAnswered board (status_of end) old new wires
  answered end runs = record { end = end; told = refl; finish = finish; progress = progress; runs = runs; served = served }

  pub watched : (end : End) → Runs fixed_conduct nobody CALLS_MAX end (dialogue_at (fixed board) old begun) (dialogue_at finish new progress) wires → IsWatched board (status_of end) old new wires
  watched ends.Clean runs = answered ends.Clean runs
  watched (ends.Torn at) runs = answered (ends.Torn at) runs
  watched (ends.TooLong at) runs = answered (ends.TooLong at) runs
  watched ends.ReadFault runs = answered ends.ReadFault runs
  watched ends.WriteFault runs = answered ends.WriteFault runs
  watched ends.Enough runs = answered ends.Enough runs
