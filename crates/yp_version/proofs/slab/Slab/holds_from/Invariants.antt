-- No row up to here has the key.
use Rattle.std.proofs.Common.{◌≡◌, ◌<◌, ◌≤◌, ℕ, false}
use Rattle.yp_version.specs.inside.Tables.{has_key}
use Rattle.yp_version.proofs.slab.Slab.holds_from.Given as goal

abbrev pub invariant-loop-row : goal.invariant-loop-row
invariant-loop-row l = (j : ℕ) → l.first ≤ j → j < l.row → has_key l.key l.self.rows j ≡ false
