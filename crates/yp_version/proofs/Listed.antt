-- What `inserted` and `listed` do to rows.
use Rattle.std.proofs.Common.{◌≡◌, ℕ, Bool, true, false, cond, List, [], ◌∷◌, Some, bytes_eq, Less, Equal, Greater, refl, sym, ap, ◌∙◌, subst, true≢false, inl, inr}
use Rattle.std.proofs.lemmas.Bool.{cases_Bool}
use Rattle.std.proofs.lemmas.Cmp.{nat_list_cmp_total}
use Rattle.std.specs.List.{AllByRecursion}
use Rattle.std.specs.List.Sorted.{IsStrictlySortedBy}
use Rattle.std.specs.Map.{keys_of}
use Rattle.std.specs.Ordering.{match_ordering}
use Rattle.yp_version.specs.Rows.{Row, key_cmp, IsRising, value_of, inserted, listed}
use Rattle.yp_version.proofs.Keys.{same_key, key_itself, eq-Greater, cmp_flip, cmp_same}

-- what holds of the keys holds of them with one more
keys-inserted : (P : List ℕ → Type 0) (row : Row) (rows : List Row) → P row.0 → AllByRecursion P (keys_of rows) → AllByRecursion P (keys_of (inserted row rows))
keys-inserted P row [] one all = (one, tt)
keys-inserted P row (other ∷ rows) one all =
    elim (key_cmp row.0 other.0) as (λ o. AllByRecursion P (keys_of (match_ordering o (row ∷ other ∷ rows) (row ∷ rows) (other ∷ inserted row rows)))) [
      | Less ↦ (one, all)
      | Equal ↦ (one, all.1)
      | Greater ↦ (all.0, keys-inserted P row rows one all.1)
    ]

-- keys above a key are above each key below it
above_lower : (low high : List ℕ) (keys : List (List ℕ)) → key_cmp low high ≡ Less → AllByRecursion (λ key. key_cmp high key ≡ Less) keys → AllByRecursion (λ key. key_cmp low key ≡ Less) keys
above_lower low high [] below all = tt
above_lower low high (key ∷ keys) below all =
    (nat_list_cmp_total.trans low high key below all.0, above_lower low high keys below all.1)

-- rising rows rise with one more
pub inserted_rises : (row : Row) (rows : List Row) → IsRising rows → IsRising (inserted row rows)
unfolding IsStrictlySortedBy
inserted_rises row [] rising = (tt, tt)
inserted_rises row (other ∷ rows) rising =
    elim (key_cmp row.0 other.0) as (λ o. key_cmp row.0 other.0 ≡ o → IsRising (match_ordering o (row ∷ other ∷ rows) (row ∷ rows) (other ∷ inserted row rows))) [
      | Less ↦ λ e. ((e, above_lower row.0 other.0 (keys_of rows) e rising.0), rising)
      | Equal ↦ λ e. (subst (λ key. AllByRecursion (λ y. key_cmp key y ≡ Less) (keys_of rows)) (sym (cmp_same row.0 other.0 e)) rising.0, rising.1)
      | Greater ↦ λ e. (keys-inserted (λ y. key_cmp other.0 y ≡ Less) row rows (cmp_flip row.0 other.0 e) rising.0, inserted_rises row rows rising.1)
    ] refl

-- listed rows rise
pub listed_rises : (rows : List Row) → IsRising (listed rows)
unfolding IsStrictlySortedBy
listed_rises [] = tt
listed_rises (row ∷ rows) = inserted_rises row (listed rows) (listed_rises rows)

-- one choice inside another, by the same test
cond-again : {X : Type 0} (b c : Bool) (x y z : X) → b ≡ c → cond b x z ≡ cond b x (cond c y z)
cond-again true c x y z e = refl
cond-again false c x y z e = λ i. cond (e i) y z

-- two choices whose tests don't both hold may change places
cond-swap : {X : Type 0} (b c : Bool) (x y z : X) → (b ≡ true → c ≡ false) → cond c y (cond b x z) ≡ cond b x (cond c y z)
cond-swap true c x y z e = λ i. cond (e refl i) y x
cond-swap false c x y z e = refl

-- the value of a key, with one row more
pub value_of-inserted : (key : List ℕ) (row : Row) (rows : List Row) → value_of key (inserted row rows) ≡ value_of key (row ∷ rows)
value_of-inserted key row [] = refl
value_of-inserted key row (other ∷ rows) =
    elim (key_cmp row.0 other.0) as (λ o. key_cmp row.0 other.0 ≡ o → value_of key (match_ordering o (row ∷ other ∷ rows) (row ∷ rows) (other ∷ inserted row rows)) ≡ value_of key (row ∷ other ∷ rows)) [
      | Less ↦ λ e. refl
      | Equal ↦ λ e. cond-again (bytes_eq row.0 key) (bytes_eq other.0 key) (Some row.1) (Some other.1) (value_of key rows) (ap (λ k. bytes_eq k key) (cmp_same row.0 other.0 e))
      | Greater ↦ λ e. ap (λ v. cond (bytes_eq other.0 key) (Some other.1) v) (value_of-inserted key row rows)
          ∙ cond-swap (bytes_eq row.0 key) (bytes_eq other.0 key) (Some row.1) (Some other.1) (value_of key rows) (apart e)
    ] refl
  where
    apart : key_cmp row.0 other.0 ≡ Greater → bytes_eq row.0 key ≡ true → bytes_eq other.0 key ≡ false
    apart e here = elim (cases_Bool (bytes_eq other.0 key)) [
      | inl there ↦ absurd (true≢false (sym (key_itself row.0) ∙ (ap (bytes_eq row.0) (same_key row.0 key here ∙ sym (same_key other.0 key there)) ∙ eq-Greater row.0 other.0 e)))
      | inr not_there ↦ not_there
    ]

-- a key has the same value in rows and in their list
pub value_of-listed : (key : List ℕ) (rows : List Row) → value_of key (listed rows) ≡ value_of key rows
value_of-listed key [] = refl
value_of-listed key (row ∷ rows) =
    value_of-inserted key row (listed rows) ∙ ap (λ v. cond (bytes_eq row.0 key) (Some row.1) v) (value_of-listed key rows)
