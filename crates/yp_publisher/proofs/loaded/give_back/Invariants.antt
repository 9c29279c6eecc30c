use Rattle.std.proofs.Common.{vec_len, vec_capacity}
use Rattle.yp_publisher.proofs.Giving.{IsGiving}
use Rattle.yp_publisher.proofs.loaded.give_back.Given as goal

abbrev pub invariant-loop-stored : goal.invariant-loop-stored
invariant-loop-stored g l = IsGiving g.D.Disk.history l.fn.maps.items l.fn.rest.items l.maps.items l.disks.items
    (vec_capacity l.disks)

abbrev pub decreases-loop-stored : goal.decreases-loop-stored
decreases-loop-stored g l = vec_len l.maps
