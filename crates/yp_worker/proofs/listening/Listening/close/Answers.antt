use Rattle.std.proofs.Common.{arith}
use Rattle.yp_worker.specs.Receptions.{opening_by}
use Rattle.yp_worker.proofs.Listenings.{kept_over}
use Rattle.yp_worker.proofs.listening.Listening.close.Goals as goal

pub returns-clause-kept : goal.returns-clause-kept
returns-clause-kept g c =
    let all = rw (← c.pass.view_is) at c.requires.all in
    let nobody = rw (← c.pass.view_is) at c.requires.none_out in
    let some = rw (← c.pass.view_is) at c.requires.ended in
    let drained = rw (← c.self.view_is) at c.requires.drained in
    let whole = c.audit.ensures.whole (omega (arith, all, c.merge.ensures.parts, c.self.invariant.one_part)) in
    kept_over g.J.Reception.opening (opening_by g.L.Hall c.self.inside.listen) _ _ _ _
    (omega (arith, whole, c.merge.ensures.amount, c.self.invariant.held, drained, nobody))
    (omega (arith, c.audit-2.ensures.bound, some)) c.self.invariant.state
