-- Rising rows are determined by their values, and so by each order of them.
use Rattle.std.proofs.Common.{◌≡◌, ℕ, List, [], ◌∷◌, Option, Some, None, slice_get, bytes_eq, length, Contains, Less, Equal, Greater, refl, sym, ap, ◌∙◌, subst, inl, inr, true≢false, IsPermutation, is_some, unwrap_or}
use Rattle.std.proofs.lemmas.Bool.{cases_Bool, cond-true, cond-false}
use Rattle.std.proofs.lemmas.Cmp.{nat_list_cmp_total, nat_list_eq_equiv}
use Rattle.std.proofs.lemmas.List.Sorted.{IsPermutation-map, IsPermutation-sym, Contains-permutation}
use Rattle.std.proofs.lemmas.Map.Keys.{IsDistinct-from_sorted, IsDistinct-IsPermutation, sorted_head, sorted_tail}
use Rattle.std.proofs.lemmas.Map.Entries.{lookup_from_place, place_from_lookup}
use Rattle.std.proofs.lemmas.Option.{slice_get_within, slice_get_read, get_or_from_slice_get}
use Rattle.std.specs.List.{AllByRecursion, IsDistinct}
use Rattle.std.specs.List.Sorted.{IsStrictlySortedBy}
use Rattle.std.specs.Map.{keys_of, lookup}
use Rattle.yp_version.specs.Rows.{Row, key_cmp, IsRising, value_of, listed}
use Rattle.yp_version.specs.inside.Rows.{HasDistinctKeys}
use Rattle.yp_version.proofs.Keys.{same_key, key_itself, eq_flip, eq_is_cmp, eq-Greater, cmp_flip, cmp_back, cmp_same}
use Rattle.yp_version.proofs.Listed.{listed_rises, value_of-listed}

-- rising rows have distinct keys
pub rising_is_distinct : (rows : List Row) → IsRising rows → HasDistinctKeys rows
rising_is_distinct rows rising = subst (λ e. IsDistinct e (keys_of rows)) (sym eq_is_cmp) (IsDistinct-from_sorted key_cmp (keys_of rows) rising)

-- a key below rows has no value there
pub value_of-below : (key : List ℕ) (rows : List Row) → AllByRecursion (λ other. key_cmp key other ≡ Less) (keys_of rows) → value_of key rows ≡ None
value_of-below key [] below = refl
value_of-below key (row ∷ rows) below =
    cond-false (bytes_eq row.0 key) (Some row.1) (value_of key rows) (eq-Greater row.0 key (cmp_back key row.0 below.0)) ∙ value_of-below key rows below.1

-- the first row's key has its value
value_of-first : (row : Row) (rows : List Row) → value_of row.0 (row ∷ rows) ≡ Some row.1
value_of-first row rows = cond-true (bytes_eq row.0 row.0) (Some row.1) (value_of row.0 rows) (key_itself row.0)

Some≢None : {X : Type 0} (x : X) → Some x ≡ None → ⊥
Some≢None x e = true≢false (ap is_some e)

-- a key below the first row is below all
below_all : (key : List ℕ) (row : Row) (rows : List Row) → key_cmp key row.0 ≡ Less → IsRising (row ∷ rows) → AllByRecursion (λ other. key_cmp key other ≡ Less) (keys_of (row ∷ rows))
unfolding IsStrictlySortedBy
below_all key row rows below rising = (below, later (keys_of rows) rising.0)
  where
    later : (keys : List (List ℕ)) → AllByRecursion (λ other. key_cmp row.0 other ≡ Less) keys → AllByRecursion (λ other. key_cmp key other ≡ Less) keys
    later [] all = tt
    later (other ∷ keys) all = (nat_list_cmp_total.trans key row.0 other below all.0, later keys all.1)

-- rising rows with the same values are the same
pub rising_unique : (rows others : List Row) → IsRising rows → IsRising others → ((key : List ℕ) → value_of key rows ≡ value_of key others) → rows ≡ others
rising_unique [] [] r o same = refl
rising_unique [] (other ∷ others) r o same = absurd (Some≢None other.1 (sym (value_of-first other others) ∙ sym (same other.0)))
rising_unique (row ∷ rows) [] r o same = absurd (Some≢None row.1 (sym (value_of-first row rows) ∙ same row.0))
rising_unique (row ∷ rows) (other ∷ others) r o same =
    elim (key_cmp row.0 other.0) as (λ c. key_cmp row.0 other.0 ≡ c → (row ∷ rows) ≡ (other ∷ others)) [
      | Less ↦ λ e. absurd (Some≢None row.1 (sym (value_of-first row rows) ∙ same row.0 ∙ value_of-below row.0 (other ∷ others) (below_all row.0 other others e o)))
      | Equal ↦ λ e.
          let k = cmp_same row.0 other.0 e in
          both k (rising_unique rows others (sorted_tail key_cmp row.0 (keys_of rows) r) (sorted_tail key_cmp other.0 (keys_of others) o) (later k))
      | Greater ↦ λ e. absurd (Some≢None other.1 (sym (value_of-first other others) ∙ sym (same other.0) ∙ value_of-below other.0 (row ∷ rows) (below_all other.0 row rows (cmp_flip row.0 other.0 e) r)))
    ] refl
  where
    values : row.0 ≡ other.0 → row.1 ≡ other.1
    values e = ap (λ v. unwrap_or v row.1) (sym (value_of-first row rows) ∙ same row.0 ∙ ap (λ key. value_of key (other ∷ others)) e ∙ value_of-first other others)

    none_here : (x : Row) (xs : List Row) → IsRising (x ∷ xs) → value_of x.0 xs ≡ None
    none_here x xs rising = value_of-below x.0 xs (sorted_head key_cmp x.0 (keys_of xs) rising)

    later : row.0 ≡ other.0 → (key : List ℕ) → value_of key rows ≡ value_of key others
    later e key = elim (cases_Bool (bytes_eq row.0 key)) [
      | inl here ↦
          let k = same_key row.0 key here in
          ap (λ q. value_of q rows) (sym k) ∙ none_here row rows r ∙ sym (none_here other others o) ∙ ap (λ q. value_of q others) (sym e ∙ k)
      | inr elsewhere ↦
          sym (cond-false (bytes_eq row.0 key) (Some row.1) (value_of key rows) elsewhere)
          ∙ same key
          ∙ cond-false (bytes_eq other.0 key) (Some other.1) (value_of key others) (ap (λ q. bytes_eq q key) (sym e) ∙ elsewhere)
    ]

    both : row.0 ≡ other.0 → rows ≡ others → (row ∷ rows) ≡ (other ∷ others)
    both e rest i = (e i, values e i) ∷ rest i

-- a row at a place is in the rows
contained : (rows : List Row) (at : ℕ) (row : Row) → slice_get rows at ≡ Some row → Contains rows row
contained rows at row e = (at, slice_get_within rows at row e, get_or_from_slice_get rows at row row e)

-- and the other way round
placed : (rows : List Row) (row : Row) → Contains rows row → (at : ℕ) × (slice_get rows at ≡ Some row)
placed rows row (at, within, read) = (at, slice_get_read rows (length rows) at row refl within (sym read))

-- rows whose keys are distinct keep their values in each order
value_stays : (key value : List ℕ) (rows others : List Row) → IsPermutation rows others → HasDistinctKeys others → value_of key rows ≡ Some value → value_of key others ≡ Some value
value_stays key value rows others moved distinct found =
    let at = place_from_lookup (λ other. bytes_eq other key) rows value found in
    let there = placed others (at.1, value) (Contains-permutation rows others (at.1, value) moved (contained rows at.0 (at.1, value) at.2)) in
    let k = same_key at.1 key at.3 in
    ap (λ test. lookup test others) (eq_flip key) ∙ ap (λ q. lookup (bytes_eq q) others) (sym k)
    ∙ lookup_from_place nat_list_eq_equiv others there.0 at.1 value distinct there.1

pub value_of-permutation : (key : List ℕ) (rows others : List Row) → IsPermutation rows others → HasDistinctKeys others → value_of key rows ≡ value_of key others
value_of-permutation key rows others moved distinct = by (value_of key rows) refl (value_of key others) refl
  where
    distinct_before : HasDistinctKeys rows
    distinct_before = IsDistinct-IsPermutation bytes_eq nat_list_eq_equiv.symm (keys_of others) (keys_of rows)
        (IsPermutation-map (λ row. row.0) others rows (IsPermutation-sym rows others moved)) distinct

    by : (v : Option (List ℕ)) → value_of key rows ≡ v → (w : Option (List ℕ)) → value_of key others ≡ w → value_of key rows ≡ value_of key others
    by (Some value) e w f = e ∙ sym (value_stays key value rows others moved distinct e)
    by None e None f = e ∙ sym f
    by None e (Some value) f = value_stays key value others rows (IsPermutation-sym rows others moved) distinct_before f ∙ sym f

-- rising rows are the list of each order of them
pub rising_is_listed : (rows rising : List Row) → IsPermutation rows rising → IsRising rising → listed rows ≡ rising
rising_is_listed rows rising moved rises =
    rising_unique (listed rows) rising (listed_rises rows) rises
    (λ key. value_of-listed key rows ∙ value_of-permutation key rows rising moved (rising_is_distinct rising rises))

-- and the list of themselves
pub rising_stays : (rows : List Row) → IsRising rows → listed rows ≡ rows
rising_stays rows rises = rising_unique (listed rows) rows (listed_rises rows) rises (λ key. value_of-listed key rows)
