-- Where a key stands among rows.
use Rattle.std.proofs.Common.{◌≡◌, ℕ, zero, suc, ◌+◌, ◌<◌, ◌≤◌, Bool, true, false, cond, List, [], ◌∷◌, map, take, length, get_or, slice_get, Option, Some, None, Result, Ok, Err, is_lt, Less, Greater, MatchOption, option_map, is_some, bytes_eq, nat_le, refl, sym, ap, ◌∙◌, subst, inl, inr, true≢false, arith, add-one}
use Rattle.std.proofs.lemmas.Bool.{cases_Bool, cond-true, cond-false, leb-true, leb-false}
use Rattle.std.proofs.lemmas.Cmp.{nat_list_cmp_total}
use Rattle.std.proofs.lemmas.List.{get_or-map, length-map}
use Rattle.std.proofs.lemmas.List.Sorted.{searchable_from_sorted}
use Rattle.std.proofs.lemmas.List.Sums.{sum_by-cons}
use Rattle.std.proofs.lemmas.Map.Entries.{lookup_at_gap}
use Rattle.std.proofs.lemmas.Map.Keys.{Less-from_sorted, IsDistinct-head, IsDistinct-tail}
use Rattle.std.proofs.lemmas.Option.{slice_get_cases, slice_get-map, slice_get_within, same_Some, none-some}
use Rattle.std.specs.List.{AllByRecursion, AllWithin}
use Rattle.std.specs.List.Sorted.{IsSortedBy, IsBinarySearchResult, IsSearchInRange, IsNonDecreasingBy}
use Rattle.std.specs.Map.{keys_of, lookup}
use Rattle.std.specs.Option.{option_map_or}
use Rattle.std.specs.Ordering.{ordering_index}
use Rattle.std.specs.Result.{result_ok}
use Rattle.yp_version.specs.inside.Places.{StandsAt, IsAbsent}
use Rattle.yp_version.specs.Rows.{Row, key_cmp, IsRising, value_of, following, first_of, row_len, rows_len}
use Rattle.yp_version.specs.inside.Rows.{HasDistinctKeys}
use Rattle.yp_version.specs.Tables.{last_below}
use Rattle.yp_version.specs.inside.Tables.{has_key}
use Rattle.yp_version.proofs.Chains.{last_passes, all_fail}
use Rattle.yp_version.proofs.Keys.{same_key, key_itself, cmp_back, cmp_flip, cmp_same, eq_flip, eq_is_cmp}
use Rattle.yp_version.proofs.Sorted.{keys-views}
use Rattle.yp_version.proofs.Unique.{rising_is_distinct}

first_is_get : (rows : List Row) → first_of rows ≡ slice_get rows 0
first_is_get [] = refl
first_is_get (row ∷ rows) = refl

-- the key at a place is apart from those before it
apart_at : (P : List ℕ → Type 0) (keys : List (List ℕ)) (i : ℕ) (key : List ℕ) → AllByRecursion P keys → slice_get keys i ≡ Some key → P key
apart_at P [] i key all e = absurd (none-some key e)
apart_at P (k ∷ keys) zero key all e = subst P (same_Some k key e) all.0
apart_at P (k ∷ keys) (suc i) key all e = apart_at P keys i key all.1 e

-- the row at a place is the one with its key
value_at : (rows : List Row) (i : ℕ) (key : List ℕ) → HasDistinctKeys rows → slice_get (keys_of rows) i ≡ Some key → value_of key rows ≡ option_map (λ row. row.1) (slice_get rows i)
value_at [] i key distinct e = absurd (none-some key e)
value_at (row ∷ rows) zero key distinct e =
    cond-true (bytes_eq row.0 key) (Some row.1) (value_of key rows) (ap (bytes_eq row.0) (sym (same_Some row.0 key e)) ∙ key_itself row.0)
value_at (row ∷ rows) (suc i) key distinct e =
    cond-false (bytes_eq row.0 key) (Some row.1) (value_of key rows) (apart_at (λ other. bytes_eq row.0 other ≡ false) (keys_of rows) i key (IsDistinct-head bytes_eq row.0 (keys_of rows) distinct) e)
    ∙ value_at rows i key (IsDistinct-tail bytes_eq row.0 (keys_of rows) distinct) e

-- and the next one follows it
following_at : (rows : List Row) (i : ℕ) (key : List ℕ) → HasDistinctKeys rows → slice_get (keys_of rows) i ≡ Some key → following key rows ≡ Some (slice_get rows (suc i))
following_at [] i key distinct e = absurd (none-some key e)
following_at (row ∷ rows) zero key distinct e =
    cond-true (bytes_eq row.0 key) (Some (first_of rows)) (following key rows) (ap (bytes_eq row.0) (sym (same_Some row.0 key e)) ∙ key_itself row.0)
    ∙ ap Some (first_is_get rows)
following_at (row ∷ rows) (suc i) key distinct e =
    cond-false (bytes_eq row.0 key) (Some (first_of rows)) (following key rows) (apart_at (λ other. bytes_eq row.0 other ≡ false) (keys_of rows) i key (IsDistinct-head bytes_eq row.0 (keys_of rows) distinct) e)
    ∙ following_at rows i key (IsDistinct-tail bytes_eq row.0 (keys_of rows) distinct) e

pub stands_at : (rows : List Row) (i : ℕ) (key : List ℕ) → IsRising rows → slice_get (keys_of rows) i ≡ Some key → StandsAt key rows i
stands_at rows i key rising e = record {
  within = let l = length-map rows (λ (row : Row). row.0) in let w = slice_get_within (keys_of rows) i key e in omega (arith, l, w);
  value = value_at rows i key (rising_is_distinct rows rising) e;
  next = following_at rows i key (rising_is_distinct rows rising) e ∙ ap (λ n. Some (slice_get rows n)) (sym (add-one i));
}

-- nothing follows a key without a value
nothing_follows : (key : List ℕ) (rows : List Row) → value_of key rows ≡ None → following key rows ≡ None
nothing_follows key [] none = refl
nothing_follows key (row ∷ rows) none = by (bytes_eq row.0 key) none (nothing_follows key rows)
  where
    by : (b : Bool) → cond b (Some row.1) (value_of key rows) ≡ None → (value_of key rows ≡ None → following key rows ≡ None)
        → cond b (Some (first_of rows)) (following key rows) ≡ None
    by true e later = absurd (true≢false (ap is_some e))
    by false e later = later e

-- a row that has the key
has_it : (rows : List Row) (i : ℕ) (key : List ℕ) → has_key key rows i ≡ true → slice_get (keys_of rows) i ≡ Some key
has_it rows i key here = slice_get-map (λ (row : Row). row.0) rows i ∙ by (slice_get rows i) here
  where
    by : (row : Option Row) → option_map_or (λ (row : Row). bytes_eq row.0 key) row false ≡ true → option_map (λ (row : Row). row.0) row ≡ Some key
    by None e = absurd (true≢false (sym e))
    by (Some row) e = ap Some (same_key row.0 key e)

-- where no row has the key, it has no value
pub none_has : (key : List ℕ) (rows : List Row) → ((j : ℕ) → j < length rows → has_key key rows j ≡ false) → value_of key rows ≡ None
none_has key [] none = refl
none_has key (row ∷ rows) none =
    cond-false (bytes_eq row.0 key) (Some row.1) (value_of key rows) (none zero (omega arith))
    ∙ none_has key rows (λ j low. none (suc j) (omega (arith, low)))

-- the last row with the key among rising rows is the one that has it
pub found_at : (rows : List Row) (key : List ℕ) (found : Option ℕ) → IsRising rows → found ≡ last_below (has_key key rows) (length rows)
    → MatchOption found (IsAbsent key rows) (StandsAt key rows)
found_at rows key None rising is =
    let none = none_has key rows (all_fail (has_key key rows) (length rows) (sym is)) in
    record { value = none; next = nothing_follows key rows none }
found_at rows key (Some i) rising is =
    stands_at rows i key rising (has_it rows i key (last_passes (has_key key rows) (length rows) i (sym is)).1)

-- there is room for each of the rows in turn
pub room_left : {X : Type 0} (row_of : X → Row) (items : List X) (i : ℕ) (x : X) → i < length items → x ≡ get_or items i x
    → rows_len (map row_of (take i items)) + row_len (row_of x) ≤ rows_len (map row_of items)
room_left row_of [] i x low is = absurd (omega (arith, low))
room_left row_of (first ∷ items) zero x low is =
    let e = ap (λ p. row_len (row_of p)) is in
    let c = sum_by-cons row_len (row_of first) (map row_of items) in
    omega arith
room_left row_of (first ∷ items) (suc i) x low is =
    let h = room_left row_of items i x (omega (arith, low)) is in
    let a = sum_by-cons row_len (row_of first) (map row_of items) in
    let b = sum_by-cons row_len (row_of first) (map row_of (take i items)) in
    omega arith

-- where a row has the key, it has a value
pub some_has : (key : List ℕ) (rows : List Row) (j : ℕ) → has_key key rows j ≡ true → is_some (value_of key rows) ≡ true
some_has key [] j here = absurd (true≢false (sym here))
some_has key (row ∷ rows) zero here = ap is_some (cond-true (bytes_eq row.0 key) (Some row.1) (value_of key rows) here)
some_has key (row ∷ rows) (suc j) here = elim (cases_Bool (bytes_eq row.0 key)) [
  | inl this ↦ ap is_some (cond-true (bytes_eq row.0 key) (Some row.1) (value_of key rows) this)
  | inr other ↦ ap is_some (cond-false (bytes_eq row.0 key) (Some row.1) (value_of key rows) other) ∙ some_has key rows j here
]

-- a look-up of the first rows, and of the others one by one, finds whether a key has a value
pub holds_by : (key : List ℕ) (rows : List Row) (first : ℕ) (found : Bool)
    → ((j : ℕ) → j < first → has_key key rows j ≡ false)
    → (found ≡ true → (j : ℕ) × (has_key key rows j ≡ true))
    → (found ≡ false → (j : ℕ) → first ≤ j → j < length rows → has_key key rows j ≡ false)
    → found ≡ is_some (value_of key rows)
holds_by key rows first true before there apart = let h = there refl in sym (some_has key rows h.0 h.1)
holds_by key rows first false before there apart = sym (ap is_some (none_has key rows (λ j low. elim (cases_Bool (nat_le first j)) [
  | inl late ↦ apart refl j (leb-true first j late) low
  | inr early ↦ before j (leb-false first j early)
])))

-- a number that was found shows that the key has a value
pub found_some : (key : List ℕ) (rows : List Row) (n : ℕ) (found : Option ℕ) → found ≡ last_below (has_key key rows) n → is_some found ≡ true
    → is_some (value_of key rows) ≡ true
found_some key rows n None is some = absurd (true≢false (sym some))
found_some key rows n (Some i) is some = some_has key rows i (last_passes (has_key key rows) n i (sym is)).1

-- Rows that are made of items may be searched by their keys, and a search among them finds where a key stands.
module _ {X : Type 0} (row_of : X → Row) where
  -- items whose rows rise may be searched
  searchable : (items : List X) (key : List ℕ) → IsRising (map row_of items) → IsNonDecreasingBy (λ x. ordering_index (key_cmp (row_of x).0 key)) items
  searchable items key rising = searchable_from_sorted nat_list_cmp_total (λ x. (row_of x).0) items key sorted
    where
      sorted : IsSortedBy (λ a b. is_lt (key_cmp (row_of a).0 (row_of b).0)) items
      sorted k d low high =
          let l = length-map items (λ x. (row_of x).0) in
          let a = get_or-map (λ x. (row_of x).0) items k d [] (omega (arith, high)) in
          let b = get_or-map (λ x. (row_of x).0) items (k + 1) d [] high in
          let keys = subst (λ keys. key_cmp (get_or keys k []) (get_or keys (k + 1) []) ≡ Less) (keys-views row_of items)
          (Less-from_sorted key_cmp (keys_of (map row_of items)) k (k + 1) [] rising (omega arith) (subst (λ keys. k + 1 < length keys) (sym (keys-views row_of items)) (omega (arith, l, high)))) in
          ap is_lt (cmp_back (row_of (get_or items k d)).0 (row_of (get_or items (k + 1) d)).0 ((λ i. key_cmp (sym a i) (sym b i)) ∙ keys))

  -- the item whose row is at a place
  item_at : (items : List X) (j : ℕ) (row : Row) → slice_get (map row_of items) j ≡ Some row
      → (x : X) × (j < length items) × (get_or items j x ≡ x) × (row_of x ≡ row)
  item_at items j row e = elim (slice_get_cases items j).1 [
    | inl (x, here, s, r) ↦ (x, here, r, same_Some (row_of x) row (sym (slice_get-map row_of items j ∙ ap (option_map row_of) s) ∙ e))
    | inr (past, none) ↦ absurd (none-some row (sym (slice_get-map row_of items j ∙ ap (option_map row_of) none) ∙ e))
  ]

  -- where a search ends
  pub searched : (items : List X) (key : List ℕ) (r : Result ℕ ℕ) → IsRising (map row_of items) → IsSearchInRange r (length items)
      → IsBinarySearchResult (λ x. key_cmp (row_of x).0 key) items r
      → MatchOption (result_ok r) (IsAbsent key (map row_of items)) (StandsAt key (map row_of items))
  searched items key (Ok i) rising bound found = stands_at (map row_of items) i key rising
      (ap (λ keys. slice_get keys i) (keys-views row_of items) ∙ slice_get-map (λ x. (row_of x).0) items i ∙ elim (slice_get_cases items i).1 [
        | inl (x, here, e, r) ↦ ap (option_map (λ x. (row_of x).0)) e ∙ ap Some (cmp_same (row_of x).0 key (ap (λ p. key_cmp (row_of p).0 key) (sym r) ∙ found x))
        | inr (past, none) ↦ absurd (omega (arith, past, bound))
      ])
  searched items key (Err i) rising bound split = record { value = none; next = nothing_follows key (map row_of items) none }
    where
      parts : AllWithin (λ x. key_cmp (row_of x).0 key ≡ Less) items 0 i × AllWithin (λ x. key_cmp (row_of x).0 key ≡ Greater) items i (length items)
      parts = split (searchable items key rising)

      below : (j : ℕ) (row : Row) → j < i → slice_get (map row_of items) j ≡ Some row → key_cmp key row.0 ≡ Greater
      below j row low e = let (x, here, r, same) = item_at items j row e in
          ap (λ row. key_cmp key row.0) (sym same) ∙ cmp_back (row_of x).0 key (ap (λ p. key_cmp (row_of p).0 key) (sym r) ∙ parts.0 j x (omega arith) low)

      above : (row : Row) → slice_get (map row_of items) i ≡ Some row → key_cmp key row.0 ≡ Less
      above row e = let (x, here, r, same) = item_at items i row e in
          ap (λ row. key_cmp key row.0) (sym same) ∙ cmp_flip (row_of x).0 key (ap (λ p. key_cmp (row_of p).0 key) (sym r) ∙ parts.1 i x (omega arith) here)

      none : value_of key (map row_of items) ≡ None
      none =
          ap (λ test. lookup test (map row_of items)) (eq_flip key ∙ ap (λ e. e key) eq_is_cmp)
          ∙ lookup_at_gap nat_list_cmp_total key (map row_of items) i rising below above
