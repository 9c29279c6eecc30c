use Rattle.std.proofs.Common.{◌≡◌, ◌∙◌, ◌∷◌, [], true, List, length, ap, sym, subst, arith}
use Rattle.std.proofs.lemmas.List.{length-append}
use Rattle.yp_binding.specs.declared.portmap.mapping.Mapping.{Mapping}
use Rattle.yp_binding.specs.portmap.Registry.{is_set, Differ}
use Rattle.yp_binding.proofs.portmap.Differing.{set_fits, with_set_differs}
use Rattle.yp_binding.proofs.portmap.registry.Registry.set.Goals as goal

pub invariant_of-self : goal.invariant_of-self
invariant_of-self c =
    let old = c.self.inside.mappings.items in
    let asked = c.args.asked in
    let is : is_set c.args.from asked old ≡ true =
    ap (is_set c.args.from asked) (sym c.deref.ensures.value) ∙ sym c.if-not-is_set.ensures in
    let put = c.push_reserved.ensures.items in (
      omega (arith, ap length put, length-append old (asked ∷ []), (set_fits c.args.from asked old is).1),
      omega (arith, c.push_reserved.ensures.capacity, c.self.invariant.1),
      subst (λ (l : List Mapping). Differ l) (sym put) (with_set_differs c.args.from asked old c.self.invariant.2 is),
    )
