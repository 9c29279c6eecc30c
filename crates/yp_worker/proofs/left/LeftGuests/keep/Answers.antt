use Rattle.std.proofs.Common.{arith}
use Rattle.yp_worker.proofs.left.LeftGuests.keep.Goals as goal

pub returns-in-Makes-clause-kept : goal.returns-in-Makes-clause-kept
returns-in-Makes-clause-kept g c = λ yes.
    let kept = c.keep.ensures.kept yes in rw (← c.self.view_is) (kept.0, omega (arith, kept.1))

pub returns-in-Transfers-clause-kept : goal.returns-in-Transfers-clause-kept
returns-in-Transfers-clause-kept g c = λ yes.
    let kept = c.keep-in-Transfers.ensures.kept yes in rw (← c.self.view_is) (kept.0, omega (arith, kept.1))
