use Rattle.std.proofs.Common.{◌≡◌, ◌++◌, drop, map}
use Rattle.yp_push.specs.inside.turns.Kept.{slave_view}
use Rattle.yp_push.specs.turns.Printed.{lines_from, push_text}
use Rattle.yp_push.proofs.turns.printed.text_of.Given as goal

abbrev pub invariant-loop-i : goal.invariant-loop-i
invariant-loop-i g l =
    l.text.items ++ lines_from l.i (map slave_view (drop l.i l.slave-items)) l.pusher.ledger ≡ push_text l.pusher
