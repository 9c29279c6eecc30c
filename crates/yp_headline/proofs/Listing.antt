-- The rows that a builder lists are those of a list in rising order, of equal keys the first.
use Rattle.std.proofs.Common.{◌≡◌, ℕ, Bool, true, false, cond, List, [], ◌∷◌, ◌++◌, Option, Some, None, bytes_eq, refl, sym, ap, ◌∙◌, subst, append_assoc}
use Rattle.std.specs.Prelude.{is_some}
use Rattle.std.proofs.lemmas.List.{append-nil}
use Rattle.std.specs.List.Sorted.{IsStrictlySortedBy}
use Rattle.yp_version.specs.Rows.{Row, IsRising, value_of, listed}
use Rattle.yp_version.specs.Drafts.{Draft, empty_draft, with_new, with_row, with_rows}
use Rattle.yp_version.proofs.Keys.{same_key}
use Rattle.yp_version.proofs.Listed.{listed_rises, value_of-listed}
use Rattle.yp_version.proofs.Unique.{rising_unique}
use Rattle.yp_headline.specs.Listing.{AreListed}

abbrev or_else : Option (List ℕ) → Option (List ℕ) → Option (List ℕ)
or_else (Some value) other = Some value
or_else None other = other

-- the value of a key is that of the front, where it is there
first_choice : (b : Bool) (value : List ℕ) (all front back : Option (List ℕ)) → all ≡ or_else front back
    → cond b (Some value) all ≡ or_else (cond b (Some value) front) back
first_choice true value all front back is = refl
first_choice false value all front back is = is

value_of_both : (key : List ℕ) (rows others : List Row)
    → value_of key (rows ++ others) ≡ or_else (value_of key rows) (value_of key others)
value_of_both key [] others = refl
value_of_both key (row ∷ rows) others = first_choice (bytes_eq row.0 key) row.1 (value_of key (rows ++ others)) (value_of key rows)
    (value_of key others) (value_of_both key rows others)

-- a row whose key is in front doesn't count
shadowed : (b : Bool) (front : Option (List ℕ)) (value : List ℕ) (back : Option (List ℕ)) → (b ≡ true → is_some front ≡ true)
    → or_else front back ≡ or_else front (cond b (Some value) back)
shadowed true (Some first) value back there = refl
shadowed true None value back there = absurd (let e : false ≡ true = there refl in cc)
shadowed false front value back there = refl

pushed : (key : List ℕ) (draft : Draft) (row : Row) (rows : List Row) (b : Bool) → is_some (value_of row.0 draft.rows) ≡ b
    → value_of key ((cond b draft (with_new draft row)).rows ++ rows) ≡ value_of key (draft.rows ++ row ∷ rows)
pushed key draft row rows true there =
    value_of_both key draft.rows rows
    ∙ shadowed (bytes_eq row.0 key) (value_of key draft.rows) row.1 (value_of key rows)
    (λ e. subst (λ (k : List ℕ). is_some (value_of k draft.rows) ≡ true) (same_key row.0 key e) there)
    ∙ sym (value_of_both key draft.rows (row ∷ rows))
pushed key draft row rows false there = ap (value_of key) (append_assoc draft.rows (row ∷ []) rows)

values_kept : (key : List ℕ) (rows : List Row) (draft : Draft)
    → value_of key (with_rows draft rows).rows ≡ value_of key (draft.rows ++ rows)
values_kept key [] draft = ap (value_of key) (sym (append-nil draft.rows))
values_kept key (row ∷ rows) draft =
    values_kept key rows (with_row draft row) ∙ pushed key draft row rows (is_some (value_of row.0 draft.rows)) refl

pub listed_is : (order : ℕ) (master : List ℕ) (list rows : List Row)
    → rows ≡ listed (with_rows (empty_draft order master) list).rows → AreListed list rows
listed_is order master list rows is = record {
  rising = subst IsRising (sym is) (listed_rises (with_rows (empty_draft order master) list).rows);
  values = λ key. ap (value_of key) is ∙ value_of-listed key (with_rows (empty_draft order master) list).rows
      ∙ values_kept key list (empty_draft order master);
}

-- they are no others
pub listed_once : (list rows others : List Row) → AreListed list rows → AreListed list others → rows ≡ others
listed_once list rows others one other =
    rising_unique rows others one.rising other.rising (λ key. one.values key ∙ sym (other.values key))

rises : (row : Row) → IsRising (row ∷ [])
unfolding IsStrictlySortedBy
rises row = (tt, tt)

-- one row is listed as it is
pub one_listed : (row : Row) → AreListed (row ∷ []) (row ∷ [])
one_listed row = record { rising = rises row; values = λ key. refl }
