use Rattle.std.proofs.Common.{length}
use Rattle.yp_xdr.specs.inside.Cursor.{unread}
use Rattle.yp_messages.proofs.InTurn.{SoFar}
use Rattle.yp_messages.proofs.maplist.read_names.Given as goal

abbrev pub invariant-items : goal.invariant-items
invariant-items l = SoFar (unread l.initial.ahead) (unread l.ahead) l.names

abbrev pub decreases-items : goal.decreases-items
decreases-items l = length (unread l.ahead).bytes
