use Rattle.std.proofs.Common.{ℕ, List, refl, sym, subst}
use Rattle.yp_xdr.specs.inside.Cursor.{unread}
use Rattle.yp_messages.proofs.InTurn.{SoFar, goes_on, fails}
use Rattle.yp_messages.proofs.maplist.read_names.Goals as goal

pub returns-in-Err : goal.returns-in-Err
returns-in-Err c = (
  fails c.list_is_read_in_turn.ensures (unread c.args.cursor.now)
      (unread c.items.ahead) c.items.names c.in-Err.fault c.items.ahead.are_bytes c.items.invariant
      c.in-Err.ensures.read.0,
  refl,
)

pub items-preserved : goal.items-preserved
items-preserved c =
    let more = goes_on c.list_is_read_in_turn.ensures (unread c.args.cursor.now) (unread c.items.ahead)
    (unread c.read.new.cursor) c.items.names c.in-Ok-More.map.now c.items.ahead.are_bytes c.items.invariant
    (rw c.in-Ok-More.field-0-is at c.in-Ok-More.ensures.read) in
    let P : List (List ℕ) → Type 0 = λ names. SoFar (unread c.args.cursor.now) (unread c.read.new.cursor) names in
    subst P (sym c.in-Ok.ensures.pushed) more
