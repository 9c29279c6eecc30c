-- How far the rows of a window were read.
use Rattle.std.proofs.Common.{◌-◌, option_map}
use Rattle.yp_xdr.specs.inside.Cursor.{unread}
use Rattle.yp_map_file.proofs.Windows.{HasPassed}
use Rattle.yp_map_file.proofs.survey.pass_rows.Given as goal

abbrev pub invariant-loop-rows : goal.invariant-loop-rows
invariant-loop-rows l = record {
  passed : HasPassed l.fn.count (option_map (λ last. last.now) l.fn.last) l.fn.window l.fn.is_last l.rows
      (option_map (λ last. last.now) l.last) (unread l.cursor);
}

abbrev pub decreases-loop-rows : goal.decreases-loop-rows
decreases-loop-rows l = l.count - l.rows
