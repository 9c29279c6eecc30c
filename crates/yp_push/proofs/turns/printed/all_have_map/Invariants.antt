use Rattle.std.proofs.Common.{◌≡◌, ◌<◌, ℕ, true}
use Rattle.yp_push.specs.Ledgers.{outcome_at}
use Rattle.yp_push.specs.turns.Printed.{stat_of, has_map}
use Rattle.yp_push.proofs.turns.printed.all_have_map.Given as goal

abbrev pub invariant-loop-i : goal.invariant-loop-i
invariant-loop-i g l = (slave : ℕ) → slave < l.i → has_map (stat_of (outcome_at l.pusher.ledger slave)) ≡ true
