use Rattle.std.proofs.Common.{◌-◌, ◌^◌}
use Rattle.yp_netgroup.specs.inside.reverse.Links.{bytes_in, under}
use Rattle.yp_netgroup.specs.inside.reverse.Back.{IsMetBack}
use Rattle.yp_netgroup.proofs.reverse.back.meet_leading.Given as goal

abbrev pub invariant-loop-next : goal.invariant-loop-next
invariant-loop-next l = IsMetBack (under l.named) (under l.listed l.key) (bytes_in l.seen.keys) l.next

abbrev pub decreases-loop-next : goal.decreases-loop-next
decreases-loop-next l = 2 ^ 63 - l.next
