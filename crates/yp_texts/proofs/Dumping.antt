-- Rows as a text, row by row, and that text read again.
use Rattle.std.proofs.Common.{◌≡◌, ℕ, ◌+◌, ◌<◌, Bool, true, false, not, ◌&&◌, if◌then◌else◌, List, [], ◌∷◌, ◌++◌}
use Rattle.std.proofs.Common.{length, take, drop, get_or, slice_get, Option, Some, None, length-append, append_assoc}
use Rattle.std.proofs.Common.{append-nil, refl, ap, ◌∙◌, arith, rules, tests}
use Rattle.std.specs.List.{list_any, flat_map}
use Rattle.std.proofs.lemmas.Bool.{false_from_ne_true}
use Rattle.std.proofs.lemmas.Option.{slice_get_within, get_or_from_slice_get}
use Rattle.std.proofs.lemmas.List.{take_more, take_at, drop_more, drop_at, get_or_append_left, get_or_at}
use Rattle.std.proofs.lemmas.List.Concat.{flat_map-append}
use Rattle.std.proofs.lemmas.List.Folds.{list_any_at, list_any-append}
use Rattle.std.proofs.lemmas.List.Sums.{position_or_len_is}
use Rattle.yp_version.specs.Blanks.{is_blank}
use Rattle.yp_version.specs.Rows.{Row}
use Rattle.yp_texts.specs.declared.dumps.DumpFault.{DumpFault}
use Rattle.yp_texts.specs.declared.dumps.DumpFault.TheVariants.{KeyUnfit, ValueUnfit}
use Rattle.yp_texts.specs.declared.reading.Reading.TheVariants.{Rows}
use Rattle.yp_texts.specs.Lines.{is_line_feed, lines}
use Rattle.yp_texts.specs.Rows.{behind_blank, key_len, plain_row, line_rows, rows_from}
use Rattle.yp_texts.specs.Words.{is_filled}
use Rattle.yp_texts.specs.Pushes.{plain}
use Rattle.yp_texts.specs.Dumps.{dump_line, dump_text, is_fit_key, is_fit_value, first_unfit}
use Rattle.yp_texts.specs.inside.Laws.{DumpIsReadAgain}
use Rattle.yp_texts.proofs.LineLists.{lines-ended, lines_from-cut}

-- ---- one row more

-- where this row stands at this place
module _ (rows : List Row) (i : ℕ) (row : Row) (there : slice_get rows i ≡ Some row) where
  is_there : get_or rows i row ≡ row
  is_there = get_or_from_slice_get rows i row row there

  pub dump_text-more : dump_text (take (i + 1) rows) ≡ dump_text (take i rows) ++ dump_line row
  dump_text-more =
      ap dump_text (take_more rows i row (slice_get_within rows i row there)
      ∙ ap (λ (next : Row). take i rows ++ next ∷ []) is_there)
      ∙ flat_map-append dump_line (take i rows) (row ∷ [])
      ∙ ap (λ (bytes : List ℕ). dump_text (take i rows) ++ bytes) (append-nil (dump_line row))

  first_unfit-at : (number : ℕ) → first_unfit number (drop i rows) ≡ first_unfit number (row ∷ drop (i + 1) rows)
  first_unfit-at number =
      ap (first_unfit number) (drop_more rows i row (slice_get_within rows i row there)
      ∙ ap (λ (next : Row). next ∷ drop (i + 1) rows) is_there)

  pub first_unfit-more : (number : ℕ) → is_fit_key row.0 ≡ true → is_fit_value row.1 ≡ true
      → first_unfit number (drop i rows) ≡ first_unfit (number + 1) (drop (i + 1) rows)
  first_unfit-more number key value = first_unfit-at number ∙ rw (key, value) refl

  pub first_unfit-key : (number : ℕ) → is_fit_key row.0 ≡ false
      → first_unfit number (drop i rows) ≡ Some (KeyUnfit number)
  first_unfit-key number key = first_unfit-at number ∙ rw key refl

  pub first_unfit-value : (number : ℕ) → is_fit_key row.0 ≡ true → is_fit_value row.1 ≡ false
      → first_unfit number (drop i rows) ≡ Some (ValueUnfit number)
  first_unfit-value number key value = first_unfit-at number ∙ rw (key, value) refl

-- ---- the line of a row, read again

-- the key of a row ends at the tab
key_len-line : (key value : List ℕ) → list_any is_blank key ≡ false → key_len (key ++ 9 ∷ value) ≡ length key
key_len-line key value none =
    position_or_len_is is_blank (key ++ 9 ∷ value) (length key) 0 (omega (arith, length-append key (9 ∷ value)))
    (λ k below. ap is_blank (get_or_append_left key (9 ∷ value) 0 k below)
    ∙ false_from_ne_true (is_blank (get_or key k 0))
    (λ blank. let some : list_any is_blank key ≡ true = list_any_at is_blank key k 0 below blank in cc))
    (λ _. ap is_blank (get_or_at key 9 value 0 (length key) refl))

-- a line, cut at this place
abbrev cut_at : List ℕ → ℕ → Option Row
cut_at line place = Some (take place line, behind_blank (drop place line))

plain_row-filled : (line : List ℕ) → 0 < length line → plain_row line ≡ cut_at line (key_len line)
plain_row-filled [] some = absurd (omega arith)
plain_row-filled (b ∷ line) some = let filled : is_filled (b ∷ line) ≡ true = search (rules, tests) in rw filled

plain_row-line : (key value : List ℕ) → list_any is_blank key ≡ false → plain_row (key ++ 9 ∷ value) ≡ Some (key, value)
plain_row-line key value none =
    plain_row-filled (key ++ 9 ∷ value) (omega (arith, length-append key (9 ∷ value)))
    ∙ ap (cut_at (key ++ 9 ∷ value)) (key_len-line key value none)
    ∙ rw (take_at key (9 ∷ value) (length key) refl, drop_at key (9 ∷ value) (length key) refl) refl

-- ---- a row that fits

fit_key-parts : (blank feed : Bool) → (not blank && not feed) ≡ true → (blank ≡ false) × (feed ≡ false)
fit_key-parts true feed e = cc
fit_key-parts false true e = cc
fit_key-parts false false e = (refl, refl)

fit_value-part : (feed : Bool) → not feed ≡ true → feed ≡ false
fit_value-part true e = cc
fit_value-part false e = refl

-- the line of a row has no line feed before its end
line-without_feed : (key value : List ℕ) → list_any is_line_feed key ≡ false → list_any is_line_feed value ≡ false
    → list_any is_line_feed (key ++ 9 ∷ value) ≡ false
line-without_feed key value in_key in_value = list_any-append is_line_feed key (9 ∷ value) ∙ rw (in_key, in_value) refl

-- it is the first line of a text that begins with it
lines-row : (row : Row) (rest : List ℕ) → is_fit_key row.0 ≡ true → is_fit_value row.1 ≡ true
    → lines (dump_line row ++ rest) ≡ (row.0 ++ 9 ∷ row.1) ∷ lines rest
lines-row row rest key value =
    let line : List ℕ = row.0 ++ 9 ∷ row.1 in
    let in_key = fit_key-parts (list_any is_blank row.0) (list_any is_line_feed row.0) key in
    let in_value = fit_value-part (list_any is_line_feed row.1) value in
    ap lines (append_assoc line (10 ∷ []) rest)
    ∙ lines-ended line rest (line-without_feed row.0 row.1 in_key.1 in_value)

-- and makes that row
rows_from-row : (row : Row) (number : ℕ) (rest : List ℕ) → is_fit_key row.0 ≡ true → is_fit_value row.1 ≡ true
    → rows_from Rows number (dump_line row ++ rest) ≡ (number, row) ∷ rows_from Rows (number + 1) rest
rows_from-row row number rest key value =
    let line : List ℕ = row.0 ++ 9 ∷ row.1 in
    let read : plain_row line ≡ Some row = plain_row-line row.0 row.1
    (fit_key-parts (list_any is_blank row.0) (list_any is_line_feed row.0) key).0 in
    ap (flat_map (line_rows Rows))
    (lines_from-cut number (dump_line row ++ rest) line rest (lines-row row rest key value))
    ∙ rw read refl

-- ---- all lines, read again

-- the first row fits, and so do those behind it
all_fit : (key value : Bool) (later : Option DumpFault) (number : ℕ)
    → (if key then (if value then later else Some (ValueUnfit number)) else Some (KeyUnfit number)) ≡ None
    → (key ≡ true) × (value ≡ true) × (later ≡ None)
all_fit false value later number e = cc
all_fit true false later number e = cc
all_fit true true later number e = (refl, refl, e)

read_again : (rows : List Row) (number line : ℕ) → first_unfit number rows ≡ None
    → plain (rows_from Rows line (dump_text rows)) ≡ rows
read_again [] number line fits = refl
read_again (row ∷ rows) number line fits =
    let all = all_fit (is_fit_key row.0) (is_fit_value row.1) (first_unfit (number + 1) rows) number fits in
    ap plain (rows_from-row row line (dump_text rows) all.0 all.1)
    ∙ ap (λ (more : List Row). row ∷ more) (read_again rows (number + 1) (line + 1) all.2)

pub dump_is_read_again : DumpIsReadAgain
dump_is_read_again rows fits = read_again rows 1 1 fits
