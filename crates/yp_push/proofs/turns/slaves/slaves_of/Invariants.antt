use Rattle.std.proofs.Common.{◌≡◌, ◌++◌, drop, map}
use Rattle.yp_push.specs.inside.turns.Kept.{slave_view}
use Rattle.yp_push.specs.turns.Slaves.{slaves_of}
use Rattle.yp_push.proofs.turns.slaves.slaves_of.Given as goal

abbrev pub invariant-loop-i : goal.invariant-loop-i
invariant-loop-i l =
    map slave_view l.slaves.items ++ slaves_of l.own l.hosts (drop l.i l.servers.rows)
    ≡ slaves_of l.own l.hosts l.servers.rows
