-- The body of a version is read again as that version.
use Rattle.std.proofs.Common.{◌≡◌, ℕ, suc, ◌+◌, ◌^◌, ◌<◌, ◌≤◌, Bool, true, false, ltb, List, [], ◌∷◌, ◌++◌, length}
use Rattle.std.proofs.Common.{Option, Some, None, Result, Ok, refl, sym, ap, ◌∙◌, append_assoc, arith}
use Rattle.std.specs.Ordering.{is_lt}
use Rattle.std.specs.List.{flat_map, AllByRecursion}
use Rattle.std.specs.List.Sorted.{IsStrictlySortedBy}
use Rattle.std.proofs.lemmas.Bool.Decides.{nat_tests}
use Rattle.std.proofs.lemmas.List.{append-nil, length-append, length-replicate}
use Rattle.std.proofs.lemmas.List.Elements.{recursion_from_All}
use Rattle.std.proofs.lemmas.List.Sums.{sum_by-cons}
use Rattle.yp_xdr.specs.Kind.{Kind, U32, Opaque, Value}
use Rattle.yp_xdr.specs.Spelling.{word, padding, padding_len, opaque, fixed, spelling}
use Rattle.yp_xdr.specs.inside.Spelling.{Fits}
use Rattle.yp_xdr.specs.Reading.{Remaining}
use Rattle.yp_xdr.specs.inside.Laws.{WrittenIsReadAgain}
use Rattle.yp_version.specs.Limits.{key_max, value_max, master_max, rows_max, body_max}
use Rattle.yp_version.specs.Rows.{Row, IsRising, padded, row_len, rows_len}
use Rattle.yp_version.specs.Versions.{MapVersion, IsVersion, body_len}
use Rattle.yp_map_file.specs.declared.wrong.Wrong.{Wrong}
use Rattle.yp_version.specs.Bodies.{format, front_bytes, head_bytes}
use Rattle.yp_version.specs.inside.Bodies.{row_bytes, body, IsBody}
use Rattle.yp_map_file.specs.Bodies.{by_xdr, item, guard, secure_of, head_at}
use Rattle.yp_map_file.specs.Bodies.{is_over, row_at, rows_at, body_at}

-- what has been read, wherever the reader then is
pub record Read {A : Type 0} (result : Result (A × Remaining) Wrong) (value : A) (rest : List ℕ) : Type 0 where
  pub at : ℕ
  pub is : result ≡ Ok (value, record { at = at; bytes = rest })

-- ---- lengths

pub length-opaque : (max : ℕ) (content : List ℕ) → length (spelling (Opaque max) content) ≡ 4 + padded (length content)
unfolding opaque fixed
length-opaque max content =
    let zeros : length (padding (length content)) ≡ padding_len (length content) =
    length-replicate (padding_len (length content)) 0 in
    omega (
      arith,
      length-append (word (length content)) (fixed content),
      length-append content
          (padding (length content)),
    )

pub length-row : (row : Row) → length (row_bytes row) ≡ row_len row
unfolding row_bytes
length-row row = omega (
  arith,
  length-append (spelling (Opaque key_max) row.0)
      (spelling (Opaque value_max) row.1),
  length-opaque key_max row.0,
  length-opaque value_max row.1,
)

pub length-rows : (rows : List Row) → length (flat_map row_bytes rows) ≡ rows_len rows
length-rows [] = refl
length-rows (row ∷ rows) =
    let one = length-row row in
    let others = length-rows rows in
    length-append (row_bytes row) (flat_map row_bytes rows)
    ∙ (let e : length (row_bytes row) + length (flat_map row_bytes rows) ≡ row_len row + rows_len rows =
    omega arith in e) ∙ sym (sum_by-cons row_len row rows)

pub length-head : (v : MapVersion) → length (head_bytes v) ≡ 16 + padded (length v.master)
unfolding front_bytes
length-head v =
    let a = spelling U32 (format v.secure) in
    let b = spelling U32 v.order in
    let c = spelling (Opaque master_max) v.master in
    let d = spelling U32 (length v.rows) in
    omega (
      arith,
      length-append (a ++ b ++ c) d,
      length-append
          (a ++ b) c,
      length-append a b,
      length-opaque master_max v.master,
    )

pub length-body : (v : MapVersion) → length (body v) ≡ body_len v
length-body v = omega (
  arith,
  length-append (head_bytes v)
      (flat_map row_bytes v.rows),
  length-head v,
  length-rows v.rows,
)

pub body_some : (v : MapVersion) → 0 < body_len v
body_some v = omega arith

-- ---- reading again

module _ (again : WrittenIsReadAgain) where
  item_again : (kind : Kind) (value : Value kind) (rest : List ℕ) (at : ℕ) → Fits kind value
      → item kind (record { at = at; bytes = spelling kind value ++ rest }) ≡
      Ok (value, record { at = at + length (spelling kind value); bytes = rest })
  item_again kind value rest at fits =
      ap by_xdr (again kind value (spelling kind value) rest at (record { fits = fits; spelled = refl }))

  secure_again : (at : ℕ) (secure : Bool) → secure_of at (format secure) ≡ Ok secure
  secure_again at true = refl
  secure_again at false = refl

  format_fits : (secure : Bool) → format secure < 2 ^ 32
  format_fits true = omega arith
  format_fits false = omega arith

  few_rows : (n at : ℕ) → n ≤ rows_max → guard (ltb n (suc rows_max)) at 7 ≡ Ok tt
  few_rows n at le = let e : ltb n (suc rows_max) ≡ true = grind (arith, nat_tests) in rw e refl

  head_again : (v : MapVersion) (rest : List ℕ) → IsVersion v
      → Read (head_at (record { at = 0; bytes = head_bytes v ++ rest })) (record {
        secure = v.secure;
        order = v.order;
        master = v.master;
        count = length v.rows;
      }) rest
  unfolding head_at front_bytes
  head_again v rest is =
      let a = spelling U32 (format v.secure) in
      let b = spelling U32 v.order in
      let c = spelling (Opaque master_max) v.master in
      let d = spelling U32 (length v.rows) in
      let split : a ++ b ++ c ++ d ++ rest ≡ a ++ (b ++ (c ++ (d ++ rest))) = simp append_assoc in
      let master_len = is.master in
      let count_len = is.count in
      let fits_master : Fits (Opaque master_max) v.master = (is.master, omega arith) in
      let fits_count : length v.rows < 2 ^ 32 = omega arith in
      let one = item_again U32 (format v.secure) (b ++ (c ++ (d ++ rest))) 0 (format_fits v.secure) in
      let sec = secure_again 0 v.secure in
      let two = item_again U32 v.order (c ++ (d ++ rest)) 4 is.order in
      let three = item_again (Opaque master_max) v.master (d ++ rest) 8 fits_master in
      let at = 8 + length c in
      let four = item_again U32 (length v.rows) rest at fits_count in
      let few = few_rows (length v.rows) at is.count in
      record { at = at + 4; is = rw (split, one, sec, two, three, four, few) refl }

  -- the first of these rows is over the key before them
  abbrev IsOverFirst : Option (List ℕ) → List Row → Type 0
  IsOverFirst last [] = Unit {0}
  IsOverFirst last (row ∷ rows) = is_over last row.0 ≡ true

  abbrev FitsRow : Row → Type 0
  FitsRow row = (length row.0 ≤ key_max) × (length row.1 ≤ value_max)

  row_again : (row : Row) (last : Option (List ℕ)) (rest : List ℕ) (at : ℕ) → FitsRow row → is_over last row.0 ≡ true
      → Read (row_at last (record { at = at; bytes = row_bytes row ++ rest })) row rest
  unfolding row_at row_bytes
  row_again row last rest at fits over =
      let a = spelling (Opaque key_max) row.0 in
      let b = spelling (Opaque value_max) row.1 in
      let split : a ++ b ++ rest ≡ a ++ (b ++ rest) = simp append_assoc in
      let few_key = fits.0 in
      let few_value = fits.1 in
      let fits_key : Fits (Opaque key_max) row.0 = (fits.0, omega arith) in
      let fits_value : Fits (Opaque value_max) row.1 = (fits.1, omega arith) in
      let one = item_again (Opaque key_max) row.0 (b ++ rest) at fits_key in
      let two = item_again (Opaque value_max) row.1 rest (at + length a) fits_value in
      record { at = at + length a + length b; is = rw (split, one, over, two) refl }

  -- the next of rising rows is over this one
  next_over : (row : Row) (rows : List Row) → IsRising (row ∷ rows) → IsOverFirst (Some row.0) rows
  unfolding IsStrictlySortedBy
  next_over row [] rising = tt
  next_over row (next ∷ rows) rising = ap is_lt rising.0.0

  rising_rest : (row : Row) (rows : List Row) → IsRising (row ∷ rows) → IsRising rows
  unfolding IsStrictlySortedBy
  rising_rest row rows rising = rising.1

  rows_again : (rows : List Row) (last : Option (List ℕ)) (rest : List ℕ) (at : ℕ) → AllByRecursion FitsRow rows
      → IsRising rows → IsOverFirst last rows
      → Read (rows_at (length rows) last (record { at = at; bytes = flat_map row_bytes rows ++ rest })) rows rest
  rows_again [] last rest at fits rising over = record { at = at; is = refl }
  rows_again (row ∷ rows) last rest at fits rising over =
      let split : flat_map row_bytes (row ∷ rows) ++ rest ≡ row_bytes row ++ (flat_map row_bytes rows ++ rest) =
      append_assoc (row_bytes row) (flat_map row_bytes rows) rest in
      let one = row_again row last (flat_map row_bytes rows ++ rest) at fits.0 over in
      let others = rows_again rows (Some row.0) rest one.at fits.1 (rising_rest row rows rising)
      (next_over row rows rising) in
      record { at = others.at; is = rw (split, one.is, others.is) refl }

  both : (rows : List Row) → AllByRecursion (λ row. length row.0 ≤ key_max) rows
      → AllByRecursion (λ row. length row.1 ≤ value_max) rows → AllByRecursion FitsRow rows
  both [] keys values = tt
  both (row ∷ rows) keys values = ((keys.0, values.0), both rows keys.1 values.1)

  none_before : (rows : List Row) → IsOverFirst None rows
  none_before [] = tt
  none_before (row ∷ rows) = refl

  -- the whole body
  pub body_again : (v : MapVersion) → IsVersion v → body_at (body v) ≡ Ok v
  unfolding body_at
  body_again v is =
      let fits = both v.rows (recursion_from_All (λ (row : Row). length row.0 ≤ key_max) v.rows is.keys)
      (recursion_from_All (λ (row : Row). length row.1 ≤ value_max) v.rows is.values) in
      let one = head_again v (flat_map row_bytes v.rows) is in
      let rows = rows_again v.rows None [] one.at fits is.rising (none_before v.rows) in
      let all : flat_map row_bytes v.rows ++ [] ≡ flat_map row_bytes v.rows = append-nil (flat_map row_bytes v.rows) in
      let rows_is = rw all at rows.is in
      rw (one.is, rows_is) refl

-- a body has some bytes, and no more than the most
pub body_bounds : (bytes : List ℕ) (version : MapVersion) → IsBody bytes version
    → (0 < length bytes) × (length bytes ≤ body_max)
body_bounds bytes version is =
    let len : length bytes ≡ body_len version = ap length is.spelled ∙ length-body version in
    let few = is.within.body in
    (omega arith, omega arith)
