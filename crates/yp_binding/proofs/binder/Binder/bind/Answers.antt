use Rattle.std.proofs.Common.{◌<◌, length, sym, subst, Some, arith}
use Rattle.std.proofs.lemmas.List.{get_or_read}
use Rattle.yp_binding.specs.Rounds.{Bindings}
use Rattle.yp_binding.specs.inside.Standings.{fresh}
use Rattle.yp_binding.specs.inside.Kept.{bindings_of, Binds}
use Rattle.yp_binding.proofs.Keeping.{binds_one}
use Rattle.yp_binding.proofs.binder.Binder.bind.Goals as goal

pub invariant_of-self : goal.invariant_of-self
invariant_of-self c =
    let B : Bindings → Type 0 =
    λ bindings. Binds (length bindings.domains) (Some c.args.binding) c.args.event in
    let binds = subst B (sym c.self.view_is) c.requires in
    let kept = c.self.invariant in
    let standings = c.self.inside.standings.items in
    let within : c.args.binding.domain < length standings = omega (arith, binds.within, kept.count) in
    let read = get_or_read standings c.args.binding.domain c.index_mut.result.now within c.index_mut.ensures.value
    fresh in
    rw (c.add.ensures, c.bind.ensures, read)
    (binds_one (bindings_of c.self.inside) standings _ _ _ c.args.binding c.args.event kept binds)
