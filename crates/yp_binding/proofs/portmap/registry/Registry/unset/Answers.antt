use Rattle.std.proofs.Common.{◌≡◌, ◌∙◌, not, List, ap, sym, subst, rules, tests, arith}
use Rattle.std.specs.List.{filter}
use Rattle.std.proofs.lemmas.Fn.{filter_same}
use Rattle.yp_binding.specs.declared.portmap.mapping.Mapping.{Mapping}
use Rattle.yp_binding.specs.portmap.Registry.{is_of, Differ}
use Rattle.yp_binding.proofs.portmap.Differing.{with_fewer, with_unset_is, fewer_few}
use Rattle.yp_binding.proofs.portmap.registry.Registry.unset.Goals as goal

pub invariant_of-self : goal.invariant_of-self
invariant_of-self c =
    let old = c.self.inside.mappings.items in
    let test : Mapping → _ = λ x. not (is_of c.args.asked x) in
    let left : c.retain.new.self.items ≡ filter test old =
    filter_same _ test _ (λ x b f' k. search (rules, tests)) _ _ c.retain.ensures.filtered in (
      fewer_few test old c.retain.new.self.items left c.self.invariant.0,
      omega (arith, c.retain.ensures.capacity, c.self.invariant.1),
      subst (λ (l : List Mapping). Differ l) (sym left) (with_fewer test old c.self.invariant.2),
    )

pub returns-clause-after : goal.returns-clause-after
returns-clause-after c =
    let test : Mapping → _ = λ x. not (is_of c.args.asked x) in
    let left : c.retain.new.self.items ≡ filter test c.self.inside.mappings.items =
    filter_same _ test _ (λ x b f' k. search (rules, tests)) _ _ c.retain.ensures.filtered in
    with_unset_is c.args.from c.args.asked c.args.self.now c.retain.new.self.items (search rules)
    (left ∙ ap (λ (l : List Mapping). filter test l) c.self.view_is)
