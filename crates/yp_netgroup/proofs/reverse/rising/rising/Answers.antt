use Rattle.std.proofs.Common.{◌≡◌, ◌∙◌, ℕ, List, [], ◌∷◌, Contains, Less, sym, subst}
use Rattle.std.specs.Borrow.{Bor}
use Rattle.std.specs.List.{AllByRecursion, dedup}
use Rattle.std.specs.List.Sorted.{IsStrictlySortedBy}
use Rattle.std.specs.Cmp.Lexicographic.{on_texts, on_texts_equal, texts_ties}
use Rattle.std.proofs.lemmas.List.Filters.{dedup_is}
use Rattle.std.proofs.lemmas.List.Kept.{IsStrictlySortedBy-dedup, Any-dedup, Contains-from_dedup}
use Rattle.std.proofs.lemmas.List.Sorted.{Contains-permutation, IsPermutation-sym}
use Rattle.yp_version.specs.Rows.{key_cmp}
use Rattle.yp_netgroup.specs.inside.reverse.Links.{bytes_in}
use Rattle.yp_netgroup.proofs.reverse.Dots.{same}
use Rattle.yp_netgroup.proofs.reverse.Meeting.{bytes}
use Rattle.yp_netgroup.proofs.reverse.Pieces.{Contains-map, Mapped, mapped}
use Rattle.yp_netgroup.proofs.reverse.Linking.{alike}
use Rattle.yp_netgroup.proofs.reverse.rising.rising.Goals as goal

all-bytes : (name : Bor (List ℕ)) (names : List (Bor (List ℕ))) → AllByRecursion (λ other. key_cmp name.now other.now ≡ Less) names
    → AllByRecursion (λ other. key_cmp name.now other ≡ Less) (bytes_in names)
all-bytes name [] h = h
all-bytes name (other ∷ names) h = (h.0, all-bytes name names h.1)

-- names in order have bytes in order
bytes-sorted : (names : List (Bor (List ℕ))) → IsStrictlySortedBy (λ (a b : Bor (List ℕ)). key_cmp a.now b.now) names
    → IsStrictlySortedBy key_cmp (bytes_in names)
unfolding IsStrictlySortedBy
bytes-sorted [] h = h
bytes-sorted (name ∷ names) h = (all-bytes name names h.0, bytes-sorted names h.1)

pub returns-clause-rising : goal.returns-clause-rising
returns-clause-rising c =
    rw (dedup_is _ _ _ c.dedup.ensures.filtered)
    (bytes-sorted _ (IsStrictlySortedBy-dedup (on_texts (λ (x : Bor (List ℕ)). x.now)) (λ x y. texts_ties x.now y.now) _ c.sort_unstable.ensures.sorted))

pub returns-clause-same : goal.returns-clause-same
returns-clause-same c = λ name.
    let is = dedup_is _ _ _ c.dedup.ensures.filtered in
    let moved = c.sort_unstable.ensures.permutation in (
      λ h.
          let at : Mapped bytes (dedup alike c.sort_unstable.new.self.items) name = mapped bytes _ name (rw is at h) in
          let here = Contains-permutation _ _ at.it (IsPermutation-sym _ _ moved) (Contains-from_dedup alike _ at.it at.there) in
          subst (Contains (bytes_in c.args.names.items)) at.same (Contains-map bytes _ at.it here),
      λ h.
          let at : Mapped bytes c.args.names.items name = mapped bytes _ name h in
          let kept = Any-dedup (on_texts_equal (λ (x : Bor (List ℕ)). x.now)) _ at.it (Contains-permutation _ _ at.it moved at.there) in
          let e : kept.1.now ≡ name = sym (same at.it.now kept.1.now kept.4) ∙ at.same in
          rw is (subst (Contains (bytes_in (dedup alike c.sort_unstable.new.self.items))) e (Contains-map bytes _ kept.1 (kept.0, kept.2, kept.3))),
    )
