-- A sort of rows with distinct keys gives rising rows.
use Rattle.std.proofs.Common.{◌≡◌, ℕ, ◌+◌, ◌<◌, false, List, [], ◌∷◌, map, length, get_or, bytes_eq, is_lt, is_eq, Ordering, Less, Equal, Greater, refl, sym, ap, ◌∙◌, subst, inl, inr, true≢false, IsPermutation, arith}
use Rattle.std.proofs.lemmas.Cmp.{nat_list_cmp_total, nat_list_eq_equiv}
use Rattle.std.proofs.lemmas.List.{get_or-map, length-map}
use Rattle.std.proofs.lemmas.List.Sorted.{IsPermutation-map}
use Rattle.std.proofs.lemmas.Map.Keys.{IsDistinct-IsPermutation, apart_from_distinct, sorted_from_all_adjacent}
use Rattle.std.proofs.lemmas.Option.{slice_get_cases}
use Rattle.std.specs.Cmp.Lexicographic.{texts_ties}
use Rattle.std.specs.List.{IsDistinct}
use Rattle.std.specs.List.Sorted.{IsSortedBy, IsStrictlySortedBy}
use Rattle.std.specs.Map.{keys_of}
use Rattle.yp_version.specs.Rows.{Row, key_cmp, IsRising}
use Rattle.yp_version.specs.inside.Rows.{HasDistinctKeys}
use Rattle.yp_version.proofs.Keys.{cmp_flip}

-- a key that is apart from one that isn't below it, is above that
next_rises : (a b : List ℕ) → is_lt (key_cmp b a) ≡ false → bytes_eq a b ≡ false → key_cmp a b ≡ Less
next_rises a b not_below apart = by (key_cmp a b) refl
  where
    by : (o : Ordering) → key_cmp a b ≡ o → key_cmp a b ≡ Less
    by Less e = e
    by Equal e = absurd (true≢false (sym (texts_ties a b ∙ ap is_eq e) ∙ apart))
    by Greater e = absurd (true≢false (sym (ap is_lt (cmp_flip a b e)) ∙ not_below))

module _ {X : Type 0} (row_of : X → Row) where
  abbrev key_at : X → List ℕ
  key_at x = (row_of x).0

  pub keys-views : (items : List X) → keys_of (map row_of items) ≡ map key_at items
  keys-views [] = refl
  keys-views (x ∷ items) = ap (λ keys. key_at x ∷ keys) (keys-views items)

  -- sorted items with distinct keys are rising rows
  pub sorted_rises : (items sorted : List X) → HasDistinctKeys (map row_of items)
      → IsPermutation items sorted → IsSortedBy (λ a b. is_lt (key_cmp (row_of a).0 (row_of b).0)) sorted → IsRising (map row_of sorted)
  sorted_rises items sorted distinct moved up = subst (IsStrictlySortedBy key_cmp) (sym (keys-views sorted)) (sorted_from_all_adjacent nat_list_cmp_total (map key_at sorted) [] rises)
    where
      apart : IsDistinct bytes_eq (map key_at sorted)
      apart = subst (IsDistinct bytes_eq) (keys-views sorted)
          (IsDistinct-IsPermutation bytes_eq nat_list_eq_equiv.symm (keys_of (map row_of items)) (keys_of (map row_of sorted))
          (IsPermutation-map (λ row. row.0) (map row_of items) (map row_of sorted) (IsPermutation-map row_of items sorted moved))
          distinct)

      rises : (k : ℕ) → k + 1 < length (map key_at sorted) → key_cmp (get_or (map key_at sorted) k []) (get_or (map key_at sorted) (k + 1) []) ≡ Less
      rises k within =
          let l = length-map sorted key_at in
          elim (slice_get_cases sorted k).1 [
            | inl (x, here, e, r) ↦
                let a = get_or-map key_at sorted k x [] here in
                let b = get_or-map key_at sorted (k + 1) x [] (omega (arith, l, within)) in
                next_rises (get_or (map key_at sorted) k []) (get_or (map key_at sorted) (k + 1) [])
                (ap is_lt (λ i. key_cmp (b i) (a i)) ∙ up k x (omega arith) (omega (arith, l, within)))
                (apart_from_distinct bytes_eq (map key_at sorted) k (k + 1) [] apart (omega arith) within)
            | inr (past, none) ↦ absurd (omega (arith, l, past, within))
          ]
