-- Rows that rise, and a key over the last of them.
use Rattle.std.proofs.Common.{◌≡◌, ℕ, zero, suc, ◌-◌, true, List, [], ◌∷◌, ◌++◌, length, slice_get, Some, None, bytes_eq, is_lt, is_eq, Ordering, Less, Equal, Greater, refl, sym, ap, ◌∙◌, subst, arith}
use Rattle.std.proofs.lemmas.Bool.{cond-false}
use Rattle.std.proofs.lemmas.Cmp.{nat_list_cmp_total}
use Rattle.std.specs.Cmp.Lexicographic.{texts_ties}
use Rattle.std.specs.List.{AllByRecursion}
use Rattle.std.specs.List.Sorted.{IsStrictlySortedBy}
use Rattle.std.specs.Map.{keys_of}
use Rattle.std.specs.Option.{option_map_or}
use Rattle.yp_version.specs.Rows.{Row, key_cmp, IsRising, value_of}
use Rattle.yp_version.specs.inside.Rows.{is_over_last}
use Rattle.yp_version.proofs.Drafted.{keys_of-push}

-- each of these keys is below this one
abbrev Below : List ℕ → List Row → Type 0
Below key rows = AllByRecursion (λ other. key_cmp other key ≡ Less) (keys_of rows)

lt_is : (o : Ordering) → is_lt o ≡ true → o ≡ Less
lt_is Less e = refl
lt_is Equal e = absurd cc
lt_is Greater e = absurd cc

-- no rows rise
pub rising_none : IsRising []
unfolding IsStrictlySortedBy
rising_none = tt

-- a key over the last is over each
over_each : (rows : List Row) (k : ℕ) (key : List ℕ) → IsRising rows → length rows ≡ suc k
    → option_map_or (λ (row : Row). is_lt (key_cmp row.0 key)) (slice_get rows k) true ≡ true → Below key rows
unfolding IsStrictlySortedBy
over_each [] k key rising len over = tt
over_each (row ∷ []) zero key rising len over = (lt_is (key_cmp row.0 key) over, tt)
over_each (row ∷ []) (suc k) key rising len over = absurd (omega (arith, len))
over_each (row ∷ other ∷ rows) zero key rising len over = absurd (omega (arith, len))
over_each (row ∷ other ∷ rows) (suc k) key rising len over =
    let rest = over_each (other ∷ rows) k key rising.1 (omega (arith, len)) over in
    (nat_list_cmp_total.trans row.0 other.0 key rising.0.0 rest.0, rest)

below_all : (rows : List Row) (key : List ℕ) → IsRising rows → is_over_last key rows ≡ true → Below key rows
below_all [] key rising over = tt
below_all (row ∷ rows) key rising over = over_each (row ∷ rows) (length rows) key rising refl
    (ap (λ k. option_map_or (λ (row : Row). is_lt (key_cmp row.0 key)) (slice_get (row ∷ rows) k) true) (let e : length rows ≡ length (row ∷ rows) - 1 = omega arith in e) ∙ over)

below_no_value : (key : List ℕ) (rows : List Row) → Below key rows → value_of key rows ≡ None
below_no_value key [] below = refl
below_no_value key (row ∷ rows) below =
    cond-false (bytes_eq row.0 key) (Some row.1) (value_of key rows) (texts_ties row.0 key ∙ ap is_eq below.0) ∙ below_no_value key rows below.1

keys_push : (key : List ℕ) (rows : List Row) (row : Row) → AllByRecursion (λ y. key_cmp key y ≡ Less) (keys_of rows)
    → key_cmp key row.0 ≡ Less → AllByRecursion (λ y. key_cmp key y ≡ Less) (keys_of (rows ++ row ∷ []))
keys_push key [] row all last = (last, tt)
keys_push key (other ∷ rows) row all last = (all.0, keys_push key rows row all.1 last)

rising_push : (rows : List Row) (row : Row) → IsRising rows → Below row.0 rows → IsRising (rows ++ row ∷ [])
unfolding IsStrictlySortedBy
rising_push [] row rising below = (tt, tt)
rising_push (first ∷ rows) row rising below =
    (keys_push first.0 rows row rising.0 below.0, rising_push rows row rising.1 below.1)

-- a key over the last of rising rows has no value, and they rise with it
pub over_is_new : (rows : List Row) (key : List ℕ) → IsRising rows → is_over_last key rows ≡ true → value_of key rows ≡ None
over_is_new rows key rising over = below_no_value key rows (below_all rows key rising over)

pub over_rises : (rows : List Row) (key : List ℕ) → IsRising rows → is_over_last key rows ≡ true → IsRising (rows ++ (key, []) ∷ [])
over_rises rows key rising over = rising_push rows (key, []) rising (below_all rows key rising over)

-- whether rows rise hangs on their keys alone
pub rising_by_key : (rows : List Row) (key value other : List ℕ) → IsRising (rows ++ (key, value) ∷ []) → IsRising (rows ++ (key, other) ∷ [])
rising_by_key rows key value other rising =
    subst (IsStrictlySortedBy key_cmp) (keys_of-push rows (key, value) ∙ sym (keys_of-push rows (key, other))) rising
