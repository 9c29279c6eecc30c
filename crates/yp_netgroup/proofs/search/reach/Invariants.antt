use Rattle.std.proofs.Common.{◌-◌, ◌^◌}
use Rattle.yp_netgroup.specs.inside.Who.{sought_of}
use Rattle.yp_netgroup.specs.inside.Seen.{names_of, IsMet}
use Rattle.yp_netgroup.proofs.search.reach.Given as goal

abbrev pub invariant-loop-next : goal.invariant-loop-next
invariant-loop-next g l = IsMet l.version.rows l.fn.group (sought_of l.sought) (names_of l.seen) l.next

abbrev pub decreases-loop-next : goal.decreases-loop-next
decreases-loop-next g l = 2 ^ 63 - l.next
