-- Rows of a body that are read one after another.
use Rattle.std.proofs.Common.{◌≡◌, ℕ, suc, ◌+◌, ◌-◌, ◌<◌, ◌≤◌, List, [], ◌∷◌, ◌++◌, Option, Some}
use Rattle.std.proofs.Common.{None, Result, Ok, Err, refl, sym, ap, ◌∙◌, append_assoc, arith}
use Rattle.std.proofs.lemmas.List.{append-nil}
use Rattle.std.proofs.lemmas.List.Sums.{sum_by-cons, sum_by_push}
use Rattle.yp_xdr.specs.Reading.{Remaining}
use Rattle.yp_version.specs.Rows.{Row, row_len, rows_len}
use Rattle.yp_version.specs.inside.Slabs.{places_from}
use Rattle.yp_map_file.specs.declared.wrong.Wrong.{Wrong}
use Rattle.yp_map_file.specs.Bodies.{row_at, rows_at, ◌>>=◌}
use Rattle.yp_map_file.specs.inside.Surveys.{before}

pub before_before : (one other : List Row) (r : Result (List Row × Remaining) Wrong)
    → before one (before other r) ≡ before (one ++ other) r
before_before one other (Ok rows) = ap (λ (l : List Row). Ok (l, rows.1)) (sym (append_assoc one other rows.0))
before_before one other (Err wrong) = refl

pub before_none : (r : Result (List Row × Remaining) Wrong) → before [] r ≡ r
before_none (Ok rows) = refl
before_none (Err wrong) = refl

-- one more row, and those after it
rows_joined : (row : Row) (r : Result (List Row × Remaining) Wrong)
    → (r >>= λ rows. Ok (row ∷ rows.0, rows.1)) ≡ before (row ∷ []) r
rows_joined row (Ok rows) = refl
rows_joined row (Err wrong) = refl

pub rows_step : (n : ℕ) (last : Option (List ℕ)) (left new : Remaining) (row : Row) → row_at last left ≡ Ok (row, new)
    → rows_at (suc n) last left ≡ before (row ∷ []) (rows_at n (Some row.0) new)
rows_step n last left new row is = rw is (rows_joined row (rows_at n (Some row.0) new))

pub rows_stop : (n : ℕ) (last : Option (List ℕ)) (left : Remaining) (wrong : Wrong) → row_at last left ≡ Err wrong
    → rows_at (suc n) last left ≡ Err wrong
rows_stop n last left wrong is = rw is refl

-- ---- the places of rows

places_push : (at : ℕ) (rows : List Row) (row : Row)
    → places_from at (rows ++ row ∷ []) ≡ places_from at rows ++ (at + rows_len rows) ∷ []
places_push at [] row = ap (λ n. n ∷ []) (let e : at ≡ at + 0 = omega arith in e)
places_push at (first ∷ rows) row =
    ap (λ l. at ∷ l) (places_push (at + row_len first) rows row
    ∙ ap (λ n. places_from (at + row_len first) rows ++ n ∷ []) (let c = sum_by-cons row_len first rows in
    let e : at + row_len first + rows_len rows ≡ at + rows_len (first ∷ rows) = omega arith in e))

-- ---- how far the rows have been read

-- of this many rows some were read, which stand at these places, and what is left follows them
pub record HasRead (count : ℕ) (start : Remaining) (places : List ℕ) (i : ℕ) (last : Option (List ℕ))
    (left : Remaining) : Type 0 where
  pub rows : List Row
  pub same : rows_at count None start ≡ before rows (rows_at (count - i) last left)
  pub found : places ≡ places_from start.at rows
  pub place : left.at ≡ start.at + rows_len rows

pub has_read_none : (count : ℕ) (start : Remaining) (places : List ℕ) → places ≡ []
    → HasRead count start places 0 None start
has_read_none count start places none = record {
  rows = [];
  same = sym (before_none (rows_at (count - 0) None start)
      ∙ ap (λ (n : ℕ). rows_at n None start) (let e : count - 0 ≡ count = omega arith in e));
  found = none;
  place = omega arith;
}

pub has_read_stop : (count : ℕ) (start : Remaining) (places : List ℕ) (i : ℕ) (last : Option (List ℕ)) (left : Remaining)
    (wrong : Wrong) → HasRead count start places i last left → i < count
    → row_at last left ≡ Err wrong → rows_at count None start ≡ Err wrong
has_read_stop count start places i last left wrong h lt is =
    let e : count - i ≡ suc (count - i - 1) = omega arith in
    h.same ∙ ap (before h.rows) (ap (λ (n : ℕ). rows_at n last left) e
    ∙ rows_stop (count - i - 1) last left wrong is)

pub has_read_more : (count : ℕ) (start : Remaining) (places more : List ℕ) (i : ℕ) (last : Option (List ℕ))
    (left new : Remaining) (key value : List ℕ) → HasRead count start places i last left → i < count
    → row_at last left ≡ Ok ((key, value), new) → new.at ≡ left.at + row_len (key, value)
    → more ≡ places ++ left.at ∷ [] → HasRead count start more (i + 1) (Some key) new
has_read_more count start places more i last left new key value h lt is behind push =
    let row : Row = (key, value) in
    let e : count - i ≡ suc (count - (i + 1)) = omega arith in
    let step : rows_at (count - i) last left ≡ before (row ∷ []) (rows_at (count - (i + 1)) (Some key) new) =
    ap (λ (n : ℕ). rows_at n last left) e ∙ rows_step (count - (i + 1)) last left new row is in
    record {
      rows = h.rows ++ row ∷ [];
      same = h.same ∙ ap (before h.rows) step
          ∙ before_before h.rows (row ∷ []) (rows_at (count - (i + 1)) (Some key) new);
      found = push ∙ (λ j. h.found j ++ h.place j ∷ []) ∙ sym (places_push start.at h.rows row);
      place = let len = sum_by_push row_len h.rows row in let at = h.place in omega arith;
    }

pub has_read_all : (count : ℕ) (start : Remaining) (places : List ℕ) (i : ℕ) (last : Option (List ℕ)) (left : Remaining)
    → HasRead count start places i last left → count ≤ i
    → (rows : List Row) × (rows_at count None start ≡ Ok (rows, left)) × (places ≡ places_from start.at rows)
has_read_all count start places i last left h le =
    let e : count - i ≡ 0 = omega arith in (
      h.rows,
      h.same ∙ ap (λ (n : ℕ). before h.rows (rows_at n last left)) e
          ∙ ap (λ (l : List Row). Ok (l, left)) (append-nil h.rows),
      h.found,
    )
