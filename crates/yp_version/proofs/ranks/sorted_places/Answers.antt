use Rattle.std.proofs.Common.{ℕ, List, map, is_lt, ap, ◌∙◌, sym, subst, IsPermutation, rules}
use Rattle.std.proofs.lemmas.Cmp.{nat_cmp_total, nat_list_cmp_total, then_total, on_total}
use Rattle.std.proofs.lemmas.Fn.{always_returns_same}
use Rattle.std.proofs.lemmas.List.Sorted.{ranks_by}
use Rattle.std.specs.List.Sorted.{IsSortedBy}
use Rattle.yp_version.specs.Rows.{key_cmp}
use Rattle.yp_version.specs.inside.Slabs.{key_from}
use Rattle.yp_version.specs.inside.Ranks.{ranked_at, rank_cmp}
use Rattle.yp_version.specs.declared.ranks.Ranked.{Ranked}
use Rattle.yp_version.proofs.Fronts.{ranked_moved, ranked_sorted, if_made}
use Rattle.yp_version.proofs.ranks.sorted_places.Goals as goal

pub returns-clause-moved : goal.returns-clause-moved
returns-clause-moved c =
    let bytes = c.args.bytes.now in
    let ranked = c.in_ok-ranked.ensures.items ∙ ap (map (ranked_at bytes)) c.deref.ensures.value in
    let moved = subst (λ (l : List Ranked). IsPermutation l c.sort_unstable_by.new.self.items) ranked c.sort_unstable_by.ensures.permutation in
    let all : IsPermutation c.args.places.items (map (λ (row : Ranked). row.place) c.deref-2.result.now) =
    subst (λ (l : List Ranked). IsPermutation c.args.places.items (map (λ (row : Ranked). row.place) l)) (sym c.deref-2.ensures.value)
    (ranked_moved bytes c.args.places.items c.sort_unstable_by.new.self.items moved) in
    if_made _ _ c.places_of.result (λ made is. subst (λ (l : List ℕ). IsPermutation c.args.places.items l) (sym is) all) c.places_of.ensures

pub returns-clause-sorted : goal.returns-clause-sorted
returns-clause-sorted c =
    let bytes = c.args.bytes.now in
    let ranked = c.in_ok-ranked.ensures.items ∙ ap (map (ranked_at bytes)) c.deref.ensures.value in
    let moved = subst (λ (l : List Ranked). IsPermutation l c.sort_unstable_by.new.self.items) ranked c.sort_unstable_by.ensures.permutation in
    let up : IsSortedBy (λ a b. is_lt (rank_cmp bytes a b)) c.sort_unstable_by.new.self.items =
    c.sort_unstable_by.ensures.sorted (λ a b. is_lt (rank_cmp bytes a b))
    (ranks_by (then_total (on_total (λ (row : Ranked). row.front) nat_cmp_total) (on_total (λ (row : Ranked). key_from bytes row.place) nat_list_cmp_total)) (λ (row : Ranked). row))
    (always_returns_same _ _ _ (λ a r f k. search rules)) in
    let all = ranked_sorted bytes c.args.places.items c.sort_unstable_by.new.self.items c.in_ok-ranked.ensures.are_bytes moved up in
    if_made _ _ c.places_of.result (λ made is.
    subst (λ (l : List ℕ). IsSortedBy (λ a b. is_lt (key_cmp (key_from bytes a) (key_from bytes b))) l) (sym (is ∙ ap (map (λ (row : Ranked). row.place)) c.deref-2.ensures.value)) all)
    c.places_of.ensures
