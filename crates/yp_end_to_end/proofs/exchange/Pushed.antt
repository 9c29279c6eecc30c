-- The rows of a version are pushed onto a builder that has room for them, and none is refused.
use Rattle.std.proofs.Common.{◌≡◌, ℕ, ◌+◌, ◌<◌, ◌≤◌, false, List, [], ◌∷◌, ◌++◌, length, Some, None, is_some, bytes_eq, nat_lt, nat_le, refl, sym, ap, ◌∙◌, subst, arith, append_assoc}
use Rattle.std.specs.Prelude.{⊤}
use Rattle.std.specs.List.{AllByRecursion}
use Rattle.std.specs.Map.{keys_of}
use Rattle.std.proofs.lemmas.Bool.{le-ltb, lt-leb, cond-false}
use Rattle.std.proofs.lemmas.List.{length-append}
use Rattle.std.proofs.lemmas.List.Elements.{All-head, All-tail}
use Rattle.std.proofs.lemmas.List.Sums.{sum_by-append}
use Rattle.std.proofs.lemmas.Map.Keys.{IsDistinct-head, IsDistinct-tail}
use Rattle.yp_version.specs.Limits.{key_max, value_max, rows_max, body_max}
use Rattle.yp_version.specs.Rows.{Row, value_of, row_len, rows_len}
use Rattle.yp_version.specs.inside.Rows.{HasDistinctKeys}
use Rattle.yp_version.specs.Drafts.{Draft, draft_len, refused, with_new}
use Rattle.yp_end_to_end.proofs.exchange.Found.{IsShortRow, AreShort}

-- each row in turn has a new key, and isn't refused
abbrev pub AreTaken : Draft → List Row → Type 0
AreTaken draft [] = ⊤
AreTaken draft (row ∷ rows) = (value_of row.0 draft.rows ≡ None) × (refused draft row ≡ None) × AreTaken (with_new draft row) rows

-- what holds of all keys holds of one in the middle
in_the_middle : (P : List ℕ → Type 0) (front : List Row) (row : Row) (rest : List Row) → AllByRecursion P (keys_of (front ++ row ∷ rest)) → P row.0
in_the_middle P [] row rest all = all.0
in_the_middle P (other ∷ front) row rest all = in_the_middle P front row rest all.1

-- a key that differs from those before it has no value there
absent_before : (front : List Row) (row : Row) (rest : List Row) → HasDistinctKeys (front ++ row ∷ rest) → value_of row.0 front ≡ None
absent_before [] row rest distinct = refl
absent_before (other ∷ front) row rest distinct =
    let apart = in_the_middle (λ key. bytes_eq other.0 key ≡ false) front row rest (IsDistinct-head bytes_eq other.0 (keys_of (front ++ row ∷ rest)) distinct) in
    cond-false (bytes_eq other.0 row.0) (Some other.1) (value_of row.0 front) apart
    ∙ absent_before front row rest (IsDistinct-tail bytes_eq other.0 (keys_of (front ++ row ∷ rest)) distinct)

pub rows_len-cons : (row : Row) (rows : List Row) → rows_len (row ∷ rows) ≡ row_len row + rows_len rows
rows_len-cons row rows = sum_by-append row_len (row ∷ []) rows ∙ ap (λ (n : ℕ). n + rows_len rows) (omega arith)

-- the bytes of the stored body grow by those of a row
draft_len-with_new : (draft : Draft) (row : Row) → draft_len (with_new draft row) ≡ draft_len draft + row_len row
draft_len-with_new draft row = omega (arith, sum_by-append row_len draft.rows (row ∷ []), rows_len-cons row [])

-- a row with a new key that there is room for
row_taken : (draft : Draft) (row : Row) → IsShortRow row → value_of row.0 draft.rows ≡ None → length draft.rows < rows_max → draft_len draft + row_len row ≤ body_max → refused draft row ≡ None
row_taken draft row short absent few room =
    cond-false (nat_lt key_max (length row.0)) _ _ (le-ltb _ _ short.0)
    ∙ cond-false (nat_lt value_max (length row.1)) _ _ (le-ltb _ _ short.1)
    ∙ cond-false (is_some (value_of row.0 draft.rows)) _ _ (ap is_some absent)
    ∙ cond-false (nat_le rows_max (length draft.rows)) _ _ (lt-leb _ _ few)
    ∙ cond-false (nat_lt body_max (draft_len draft + row_len row)) _ _ (le-ltb _ _ room)

pub are_taken : (draft : Draft) (rows : List Row) → HasDistinctKeys (draft.rows ++ rows) → AreShort rows → length draft.rows + length rows ≤ rows_max → draft_len draft + rows_len rows ≤ body_max
    → AreTaken draft rows
are_taken draft [] distinct short few room = tt
are_taken draft (row ∷ rows) distinct short few room =
    let absent = absent_before draft.rows row rows distinct in
    let more = rows_len-cons row rows in (
      absent,
      row_taken draft row (All-head IsShortRow row rows short) absent (omega arith) (omega arith),
      are_taken (with_new draft row) rows (subst HasDistinctKeys (sym (append_assoc draft.rows (row ∷ []) rows)) distinct) (All-tail IsShortRow row rows short)
          (omega (arith, length-append draft.rows (row ∷ []))) (omega (arith, draft_len-with_new draft row)),
    )
