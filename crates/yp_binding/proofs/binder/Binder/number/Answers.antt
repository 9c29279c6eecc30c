use Rattle.std.proofs.Common.{◌≡◌, ℕ, ◌<◌, true, false, List, [], length, map, get_or, sym, ap, ◌∙◌, arith}
use Rattle.std.specs.Prelude.{bytes_eq}
use Rattle.std.proofs.lemmas.List.{length-map, get_or-map}
use borrow.Author.Count.{below_more}
use Rattle.yp_binding.specs.Rounds.{Bindings}
use Rattle.yp_binding.specs.Replies.{domain_number}
use Rattle.yp_binding.proofs.Lists.{position_found, position_none}
use Rattle.yp_binding.proofs.binder.Binder.number.Goals as goal

pub returns-then-eq-clause-number : goal.returns-then-eq-clause-number
returns-then-eq-clause-number c =
    let items = c.self.inside.domains.items in
    let names : List (List ℕ) = map (λ name. name.items) items in
    let domain = c.args.domain.now in
    let len : length names ≡ length items = length-map items (λ name. name.items) in
    let lt : c.loop-number.number < length items = omega (arith, c.loop-number-test.true) in
    let item = get_or-map (λ name. name.items) items c.loop-number.number c.index.result.now [] lt
    ∙ ap (λ name. name.items) (sym c.index.ensures) ∙ sym c.as_slice.ensures.value in
    let is : bytes_eq (get_or names c.loop-number.number []) domain ≡ true =
    ap (λ (xs : List ℕ). bytes_eq xs domain) item ∙ sym c.eq.ensures ∙ c.if-eq.true in
    position_found (λ name. bytes_eq name domain) names c.loop-number.number [] (omega (arith, lt, len))
    c.loop-number.invariant is
    ∙ ap (λ (bindings : Bindings). domain_number bindings domain) c.self.view_is

pub loop-number-preserved : goal.loop-number-preserved
loop-number-preserved c =
    let items = c.self.inside.domains.items in
    let names : List (List ℕ) = map (λ name. name.items) items in
    let domain = c.args.domain.now in
    let lt : c.loop-number.number < length items = omega (arith, c.loop-number-test.true) in
    let item = get_or-map (λ name. name.items) items c.loop-number.number c.index.result.now [] lt
    ∙ ap (λ name. name.items) (sym c.index.ensures) ∙ sym c.as_slice.ensures.value in
    let isnt : bytes_eq (get_or names c.loop-number.number []) domain ≡ false =
    ap (λ (xs : List ℕ). bytes_eq xs domain) item ∙ sym c.eq.ensures ∙ c.if-eq.false in
    below_more (λ k. bytes_eq (get_or names k []) domain ≡ false) c.loop-number.number c.loop-number.invariant isnt

pub returns-clause-number : goal.returns-clause-number
returns-clause-number c =
    let items = c.self.inside.domains.items in
    let names : List (List ℕ) = map (λ name. name.items) items in
    let domain = c.args.domain.now in
    let len : length names ≡ length items = length-map items (λ name. name.items) in
    position_none (λ name. bytes_eq name domain) names []
    (λ k lt. c.loop-number.invariant k (omega (arith, lt, len, c.loop-number-test.false)))
    ∙ ap (λ (bindings : Bindings). domain_number bindings domain) c.self.view_is
