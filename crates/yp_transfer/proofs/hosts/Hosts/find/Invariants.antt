use Rattle.std.proofs.Common.{◌≡◌}
use Rattle.yp_transfer.proofs.Finding.{found_from}
use Rattle.yp_transfer.proofs.hosts.Hosts.find.Given as goal

abbrev pub invariant-loop-host : goal.invariant-loop-host
invariant-loop-host l = found_from l.name l.host-items l.host-index ≡ found_from l.name l.host-items 0
