-- How far the rows have been read.
use Rattle.std.proofs.Common.{option_map}
use Rattle.yp_xdr.specs.inside.Cursor.{unread}
use Rattle.yp_map_file.specs.inside.Bodies.{Passes}
use Rattle.yp_map_file.proofs.Rows.{HasRead}
use Rattle.yp_map_file.proofs.read.read_rows.Given as goal

abbrev pub invariant-loop-number : goal.invariant-loop-number
invariant-loop-number l = record {
  rows : HasRead l.count (unread l.fn.cursor) l.places.items l._number (option_map (λ last. last.now) l.last) (unread l.cursor);
  passed : Passes (unread l.fn.cursor) (unread l.cursor);
}
