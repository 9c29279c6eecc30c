use Rattle.std.proofs.Common.{rules}
use Rattle.yp_push.proofs.Keeping.{begins}
use Rattle.yp_push.proofs.ledger.Push.new.Goals as goal

pub invariant_of-result : goal.invariant_of-result
invariant_of-result c =
    rw (c.in-Ok.ensures.items_if_clones_equal (λ y h. search rules), c.new.ensures)
    (begins c.args.slaves c.args.first c.requires.few c.ranges.first.fits)
