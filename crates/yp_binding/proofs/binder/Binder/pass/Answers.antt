use Rattle.std.proofs.Common.{length, sym, subst, None}
use Rattle.yp_binding.specs.Rounds.{Bindings}
use Rattle.yp_binding.specs.inside.Kept.{bindings_of, Binds}
use Rattle.yp_binding.proofs.Keeping.{passes}
use Rattle.yp_binding.proofs.binder.Binder.pass.Goals as goal

pub invariant_of-self : goal.invariant_of-self
invariant_of-self c =
    let B : Bindings → Type 0 = λ bindings. Binds (length bindings.domains) None c.args.event in
    rw c.add.ensures
    (passes (bindings_of c.self.inside) _ _ _ _ c.args.event c.self.invariant (subst B (sym c.self.view_is) c.requires))
