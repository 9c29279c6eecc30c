use Rattle.std.proofs.Common.{subst, option_map}
use Rattle.std.specs.Arc.{arc_value}
use Rattle.yp_publisher.specs.Keeping.{LeavesFew}
use Rattle.yp_publisher.specs.inside.Shared.{standing_of}
use Rattle.yp_publisher.specs.Standing.{StoredMap}
use Rattle.yp_publisher.proofs.Moments.{left_alone, few}
use Rattle.yp_publisher.proofs.stored.StoredMap.rest.Goals as goal

pub returns-clause-bound : goal.returns-clause-bound
returns-clause-bound g c =
    let H = g.D.Disk.history in
    let L = g.met.D.Disk in
    let i = c.self.inside in
    let disk = i.slot.disk in
    let all = left_alone (H disk) (L.stays disk) (L.only_now disk)
    (λ image left. few c.file_is_bounded.ensures (standing_of i.failed) (option_map arc_value i.version) image
    (c.self.invariant.images image left)) in
    subst (λ (k : StoredMap g.row.D.Denot). LeavesFew H k k) c.self.view_is all
