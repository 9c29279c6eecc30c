use Rattle.std.proofs.Common.{◌≡◌, ℕ, List, length, map, ap, ◌∙◌, rules, arith}
use Rattle.std.specs.Prelude.{replicate}
use Rattle.std.proofs.lemmas.List.{length-map}
use Rattle.yp_binding.specs.declared.standing.BindingState.{BindingState}
use Rattle.yp_binding.specs.inside.Standings.{fresh}
use Rattle.yp_binding.proofs.Keeping.{begins}
use Rattle.yp_binding.proofs.binder.Binder.new.Goals as goal

pub invariant_of-result : goal.invariant_of-result
invariant_of-result c =
    let names : List (List ℕ) = map (λ name. name.items) c.args.domains.items in
    let len : length names ≡ length c.args.domains.items = length-map c.args.domains.items (λ name. name.items) in
    let count : c.len.result ≡ length names = omega (arith, len) in
    let items : c.in-Ok.standings.items ≡ replicate (length names) fresh =
    c.in-Ok.ensures.items_if_clones_equal (λ y h. search rules)
    ∙ ap (λ (n : ℕ). replicate n c.new.result) count
    ∙ ap (λ (s : BindingState). replicate (length names) s) c.new.ensures in
    rw (items, c.new-2.ensures)
    (begins names c.args.servers.items c.args.policy (omega (arith, len, c.requires.domains)) c.requires.servers)
