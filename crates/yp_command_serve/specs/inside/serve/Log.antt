-- What was written of a log, and the totals that it ends with.
use Rattle.std.specs.Prelude.{ℕ, List, Option, Some, None, Result, Ok, Err}
use Rattle.std.specs.Io.KnownBytes.{Appends}
use Rattle.yp_board.specs.Catalogues.{Name}
use Rattle.yp_host.specs.declared.workers.outcome.Totals.{Totals}
use Rattle.yp_command_serve.specs.declared.serve.resources.NotHosted.{NotHosted}
use Rattle.yp_command_serve.specs.declared.serve.tally.Hosted.{Hosted}
use Rattle.yp_command_serve.specs.serve.Log.{LogLine, lines_text}

-- lines of these maps were written
pub record WritesLines (maps : List Name) (before after : Option (List ℕ)) : Type 0 where
  pub lines : List LogLine
  pub written : Appends before after (lines_text maps lines)

-- the totals of what was served
abbrev pub totals_told : Result Hosted NotHosted → Option Totals
totals_told (Ok hosted) = Some hosted.totals
totals_told (Err why) = None
