use Rattle.std.proofs.Common.{◌≡◌, length, arith, refl}
use Rattle.yp_publisher.proofs.Lists.{same_by_get}
use Rattle.yp_publisher.proofs.same.has_same_rows.Goals as goal

pub returns : goal.returns
returns c =
    let len : length c.args.a.now.rows ≡ length c.args.b.now.rows = omega arith in (
      λ yes. same_by_get c.args.a.now.rows c.args.b.now.rows len
          (λ k lt. c.loop-number.invariant k (omega arith)),
      λ same. refl,
    )
