use Rattle.std.proofs.Common.{arith}
use Rattle.yp_worker.proofs.Attending.{comes_same, comes_then}
use Rattle.yp_worker.proofs.Growing.{front_then}
use Rattle.yp_worker.proofs.worker.Worker.go_on.Goals as goal

pub returns-then-not-step-clause-comes : goal.returns-then-not-step-clause-comes
returns-then-not-step-clause-comes g c =
    comes_same _ _ _ _ _ c.step.ensures.came c.step.ensures.door

pub leave-requires-clause-out : goal.leave-requires-clause-out
leave-requires-clause-out g c =
    omega (arith, c.step.ensures.came, c.requires.out)

pub returns-then-leave-clause-comes : goal.returns-then-leave-clause-comes
returns-then-leave-clause-comes g c =
    comes_then _ _ _ _ _ _ _ _ _ (comes_same _ _ _ _ _ c.step.ensures.came c.step.ensures.door) c.leave.ensures.comes

pub returns-clause-grown : goal.returns-clause-grown
returns-clause-grown g c =
    front_then _ _ _ c.step.ensures.grown c.step-2.ensures.grown

pub returns-clause-comes : goal.returns-clause-comes
returns-clause-comes g c =
    comes_then _ _ _ _ _ _ _ _ _
    (comes_then _ _ _ _ _ _ _ _ _ (comes_same _ _ _ _ _ c.step.ensures.came c.step.ensures.door) c.leave.ensures.comes)
    (comes_same _ _ _ _ _ c.step-2.ensures.came c.step-2.ensures.door)
