use Rattle.std.proofs.Common.{◌≡◌, ◌+◌, [], length}
use Rattle.yp_server.proofs.hosts.charges_of.Given as goal

abbrev pub invariant-loop-host : goal.invariant-loop-host
invariant-loop-host g l = record {
  parts : l.charges.parts + length l.hosts.items ≡ length l.fn.hosts.items;
  left : l.charges.left ≡ [];
  queue : l.call_backs ≡ l.fn.call_backs;
}

abbrev pub decreases-loop-host : goal.decreases-loop-host
decreases-loop-host g l = length l.hosts.items
