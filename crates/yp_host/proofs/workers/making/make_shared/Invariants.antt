-- What holds after each round, and that the rounds end.
use Rattle.std.proofs.Common.{◌≡◌, ◌+◌, ◌-◌}
use Rattle.yp_texts.specs.Builds.{order_max}
use Rattle.yp_publisher.specs.sharing.Shares.{Learns}
use Rattle.yp_host.specs.inside.workers.Makings.{height}
use Rattle.yp_host.specs.inside.workers.Charges.{ChargesMore, no_cost}
use Rattle.yp_host.proofs.workers.making.make_shared.Given as goal

abbrev pub invariant-rounds : goal.invariant-rounds
invariant-rounds g l = record {
  learned : Learns (g.B.Reader.View.seen l.fn.reader) (g.B.Reader.View.seen l.reader);
  charged : ChargesMore no_cost l.fn.charges l.charges;
  left : l.charges.left ≡ l.fn.charges.left;
}

abbrev pub decreases-rounds : goal.decreases-rounds
decreases-rounds g l = order_max + 1 - height l.job.map (g.B.Reader.View.seen l.reader).known
