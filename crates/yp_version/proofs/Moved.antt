-- Rows with distinct keys are listed as they are, in another order.
use Rattle.std.proofs.Common.{◌≡◌, ℕ, Bool, true, false, cond, List, [], ◌∷◌, Some, None, is_some, bytes_eq, Less, Equal, Greater, refl, sym, ap, ◌∙◌, true≢false, IsPermutation}
use Rattle.std.proofs.lemmas.Bool.{cond-false}
use Rattle.std.proofs.lemmas.Cmp.{nat_list_eq_equiv}
use Rattle.std.proofs.lemmas.List.Sorted.{IsPermutation-refl, IsPermutation-cons, IsPermutation-trans, IsPermutation-middle}
use Rattle.std.proofs.lemmas.Map.Keys.{IsDistinct-head, IsDistinct-tail}
use Rattle.std.specs.List.{AllByRecursion}
use Rattle.std.specs.Map.{keys_of}
use Rattle.std.specs.Ordering.{match_ordering}
use Rattle.yp_version.specs.Rows.{Row, key_cmp, value_of, inserted, listed}
use Rattle.yp_version.specs.inside.Rows.{HasDistinctKeys}
use Rattle.yp_version.proofs.Keys.{key_itself, cmp_same}
use Rattle.yp_version.proofs.Listed.{value_of-listed}

-- a key that is apart from all has no value
pub value_of-apart : (key : List ℕ) (rows : List Row) → AllByRecursion (λ other. bytes_eq key other ≡ false) (keys_of rows) → value_of key rows ≡ None
value_of-apart key [] apart = refl
value_of-apart key (row ∷ rows) apart =
    cond-false (bytes_eq row.0 key) (Some row.1) (value_of key rows) (nat_list_eq_equiv.symm row.0 key ∙ apart.0)
    ∙ value_of-apart key rows apart.1

-- a key without a value isn't that of the first row, and has none in the others
absent_first : (key : List ℕ) (row : Row) (rows : List Row) → value_of key (row ∷ rows) ≡ None → bytes_eq row.0 key ≡ false
absent_first key row rows none = by (bytes_eq row.0 key) none
  where
    by : (b : Bool) → cond b (Some row.1) (value_of key rows) ≡ None → b ≡ false
    by true e = absurd (true≢false (ap is_some e))
    by false e = refl

absent_later : (key : List ℕ) (row : Row) (rows : List Row) → value_of key (row ∷ rows) ≡ None → value_of key rows ≡ None
absent_later key row rows none =
    sym (cond-false (bytes_eq row.0 key) (Some row.1) (value_of key rows) (absent_first key row rows none)) ∙ none

-- a row with a new key goes to its place
inserted_moves : (row : Row) (rows : List Row) → value_of row.0 rows ≡ None → IsPermutation (row ∷ rows) (inserted row rows)
inserted_moves row [] none = IsPermutation-refl (row ∷ [])
inserted_moves row (other ∷ rows) none =
    elim (key_cmp row.0 other.0) as (λ o. key_cmp row.0 other.0 ≡ o → IsPermutation (row ∷ other ∷ rows) (match_ordering o (row ∷ other ∷ rows) (row ∷ rows) (other ∷ inserted row rows))) [
      | Less ↦ λ e. IsPermutation-refl (row ∷ other ∷ rows)
      | Equal ↦ λ e. absurd (true≢false (sym (key_itself row.0) ∙ ap (λ key. bytes_eq key row.0) (cmp_same row.0 other.0 e) ∙ absent_first row.0 other rows none))
      | Greater ↦ λ e. IsPermutation-trans (row ∷ other ∷ rows) (other ∷ row ∷ rows) (other ∷ inserted row rows)
          (IsPermutation-middle (row ∷ []) other rows)
          (IsPermutation-cons other (row ∷ rows) (inserted row rows) (inserted_moves row rows (absent_later row.0 other rows none)))
    ] refl

-- rows with distinct keys are listed in another order
pub listed_moves : (rows : List Row) → HasDistinctKeys rows → IsPermutation rows (listed rows)
listed_moves [] distinct = IsPermutation-refl []
listed_moves (row ∷ rows) distinct =
    IsPermutation-trans (row ∷ rows) (row ∷ listed rows) (inserted row (listed rows))
    (IsPermutation-cons row rows (listed rows) (listed_moves rows (IsDistinct-tail bytes_eq row.0 (keys_of rows) distinct)))
    (inserted_moves row (listed rows) (value_of-listed row.0 rows ∙ value_of-apart row.0 rows (IsDistinct-head bytes_eq row.0 (keys_of rows) distinct)))
