-- The rows of a reply to ALL are read one by one, as they were written.
use Rattle.std.proofs.Common.{◌≡◌, ℕ, zero, suc, ◌+◌, ◌*◌, ◌<◌, ℤ, pos, Bool, true, false, cond, List, [], ◌∷◌, ◌++◌, length, map, Option, Some, None, is_some, Result, Ok, Err, refl, sym, ap, ◌∙◌, arith, append_assoc}
use Rattle.std.specs.Prelude.{flat_map}
use Rattle.std.proofs.lemmas.List.{length-append, append-nil}
use Rattle.std.proofs.lemmas.List.Elements.{All-head, All-tail}
use Rattle.yp_xdr.specs.Kind.{Boolean, Opaque, ListOf, Value}
use Rattle.yp_xdr.specs.Spelling.{word, opaque, spelling, present}
use Rattle.yp_xdr.specs.Reading.{Remaining}
use Rattle.yp_xdr.specs.inside.Laws.{WrittenIsReadAgain}
use Rattle.yp_messages.specs.declared.stat.YpStat.{YpStat}
use Rattle.yp_messages.specs.declared.stat.YpStat.TheVariants.{True, Nomap, Nodom, Yperr, Badargs}
use Rattle.yp_messages.specs.Numbers.{key_max, value_max}
use Rattle.yp_messages.specs.Statuses.{stat, stat_number}
use Rattle.yp_messages.specs.Messages.{key_val}
use Rattle.yp_version.specs.declared.builder.VersionFault.{VersionFault}
use Rattle.yp_version.specs.Rows.{Row, value_of, rows_len}
use Rattle.yp_version.specs.Drafts.{Draft, refused, with_row, with_new}
use Rattle.yp_client.specs.declared.fault.ClientFault.{ClientFault}
use Rattle.yp_client.specs.declared.fault.ClientFault.TheVariants.{Yp}
use Rattle.yp_client.specs.Results.{◌>>=◌, item}
use Rattle.yp_client.specs.All.{ItemRead, row_at, by_row_stat, status_at, all_item_at, by_refusal, by_item, filled}
use Rattle.yp_answer.specs.Results.{row_item, no_row}
use Rattle.yp_end_to_end.proofs.exchange.Found.{IsShortRow, AreShort}
use Rattle.yp_end_to_end.proofs.exchange.Values.{item_again, stat_fits}
use Rattle.yp_end_to_end.proofs.exchange.Pushed.{AreTaken, rows_len-cons}
use Rattle.yp_end_to_end.proofs.exchange.Sound.{IsRefusal}
use Rattle.yp_end_to_end.proofs.exchange.Lengths.{length-opaque}

-- ---- one item

-- the bytes of an item
abbrev item_bytes : Value key_val → List ℕ
item_bytes value = present (spelling key_val) value

-- the parts of an item, and what is behind it
parts : (a b c d rest : List ℕ) → (a ++ (b ++ (c ++ d))) ++ rest ≡ a ++ (b ++ (c ++ (d ++ rest)))
parts a b c d rest = simp append_assoc

-- what a client makes of a status
abbrev by_status : ℤ × Remaining → ItemRead
by_status status = by_row_stat status.0 status.1

-- and of a boolean
abbrev by_more : Bool × Remaining → ItemRead
by_more more = cond more.0 (status_at more.1) (Ok (None, more.1))

-- a row behind its status
row_read : WrittenIsReadAgain → (row : Row) (at : ℕ) (rest : List ℕ) → IsShortRow row
    → (at' : ℕ) × (row_at (record { at = at; bytes = opaque row.1 ++ (opaque row.0 ++ rest) }) ≡ Ok (Some row, record { at = at'; bytes = rest }))
unfolding row_at
row_read law row at rest short =
    let there = at + length (opaque row.1) in (
      there + length (opaque row.0),
      ap (λ (r : Result (List ℕ × Remaining) ClientFault). r >>= λ value. item (Opaque key_max) value.1 >>= λ key. Ok (Some (key.0, value.0), key.1))
          (item_again law (Opaque value_max) row.1 at (opaque row.0 ++ rest) (short.1, omega (arith, short.1)))
          ∙ ap (λ (r : Result (List ℕ × Remaining) ClientFault). r >>= λ key. Ok (Some (key.0, row.1), key.1))
          (item_again law (Opaque key_max) row.0 there rest (short.0, omega (arith, short.0))),
    )

-- an item with any status
status_read : WrittenIsReadAgain → (s : YpStat) (at : ℕ) (rest : List ℕ)
    → all_item_at (record { at = at; bytes = word 1 ++ (spelling stat (stat_number s) ++ rest) }) ≡ by_row_stat (stat_number s) (record { at = at + 4 + 4; bytes = rest })
unfolding all_item_at status_at
status_read law s at rest =
    ap (λ (r : Result (Bool × Remaining) ClientFault). r >>= by_more) (item_again law Boolean true at (spelling stat (stat_number s) ++ rest) tt)
    ∙ ap (λ (r : Result (ℤ × Remaining) ClientFault). r >>= by_status) (item_again law stat (stat_number s) (at + 4) rest (stat_fits s))

-- a row
item_read : WrittenIsReadAgain → (row : Row) (at : ℕ) (rest : List ℕ) → IsShortRow row
    → (at' : ℕ) × (all_item_at (record { at = at; bytes = item_bytes (row_item row) ++ rest }) ≡ Ok (Some row, record { at = at'; bytes = rest }))
item_read law row at rest short =
    let behind = row_read law row (at + 4 + 4) rest short in
    let split = parts (word 1) (spelling stat (pos 1)) (opaque row.1) (opaque row.0) rest in (
      behind.0,
      ap (λ (bytes : List ℕ). all_item_at (record { at = at; bytes = bytes })) split
          ∙ status_read law True at (opaque row.1 ++ (opaque row.0 ++ rest))
          ∙ behind.1,
    )

-- the end
end_read : WrittenIsReadAgain → (at : ℕ) → all_item_at (record { at = at; bytes = word 0 }) ≡ Ok (None, record { at = at + 4; bytes = [] })
unfolding all_item_at
end_read law at = ap (λ (r : Result (Bool × Remaining) ClientFault). r >>= by_more) (item_again law Boolean false at [] tt)

-- ---- all rows

-- a draft with more rows behind its own
abbrev pub with_all : Draft → List Row → Draft
with_all draft rows = record draft { rows = draft.rows ++ rows }

-- one item is read
filled_item : (n count : ℕ) (draft : Draft) (left : Remaining) (read : ItemRead) → all_item_at left ≡ read → filled (suc n) draft count left ≡ by_item (filled n) draft count read
unfolding filled
filled_item n count draft left read is = ap (by_item (filled n) draft count) is

-- a row that is taken is pushed
pushed : (n count : ℕ) (draft : Draft) (row : Row) (left : Remaining) → value_of row.0 draft.rows ≡ None → refused draft row ≡ None
    → by_item (filled n) draft count (Ok (Some row, left)) ≡ filled n (with_new draft row) (count + 1) left
pushed n count draft row left absent taken =
    ap (λ (cause : Option VersionFault). by_refusal cause draft count (filled n (with_row draft row) (count + 1) left)) taken
    ∙ ap (λ (value : Option (List ℕ)). filled n (cond (is_some value) draft (with_new draft row)) (count + 1) left) absent

pub rows_filled : WrittenIsReadAgain → (n count : ℕ) (draft : Draft) (rows : List Row) (at : ℕ) → length rows < n → AreShort rows → AreTaken draft rows
    → filled n draft count (record { at = at; bytes = spelling (ListOf key_val) (map row_item rows) }) ≡ record { draft = with_all draft rows; rows = count + length rows; end = Ok tt }
rows_filled law zero count draft rows at few short taken = absurd (omega (arith, few))
rows_filled law (suc n) count draft [] at few short taken =
    filled_item n count draft (record { at = at; bytes = word 0 }) _ (end_read law at)
    ∙ ap (λ (all : List Row). record { draft = record draft { rows = all }; rows = count; end = Ok tt }) (sym (append-nil draft.rows))
    ∙ ap (λ (k : ℕ). record { draft = with_all draft []; rows = k; end = Ok tt }) (omega arith)
rows_filled law (suc n) count draft (row ∷ rows) at few short taken =
    let later = spelling (ListOf key_val) (map row_item rows) in
    let split = append_assoc (item_bytes (row_item row)) (flat_map (present (spelling key_val)) (map row_item rows)) (word 0) in
    let one = item_read law row at later (All-head IsShortRow row rows short) in
    let left : Remaining = record { at = one.0; bytes = later } in
    ap (λ (bytes : List ℕ). filled (suc n) draft count (record { at = at; bytes = bytes })) split
    ∙ filled_item n count draft (record { at = at; bytes = item_bytes (row_item row) ++ later }) (Ok (Some row, left)) one.1
    ∙ pushed n count draft row left taken.0 taken.1
    ∙ rows_filled law n (count + 1) (with_new draft row) rows one.0 (omega (arith, few)) (All-tail IsShortRow row rows short) taken.2
    ∙ ap (λ (all : List Row). record { draft = record draft { rows = all }; rows = count + 1 + length rows; end = Ok tt }) (append_assoc draft.rows (row ∷ []) rows)
    ∙ ap (λ (k : ℕ). record { draft = with_all draft (row ∷ rows); rows = k; end = Ok tt }) (omega arith)

-- ---- a refusal

-- a status that refuses
by_refusing : (s : YpStat) (left : Remaining) → IsRefusal s → by_row_stat (stat_number s) left ≡ Err (Yp s)
by_refusing Badargs left is = refl
by_refusing Nodom left is = refl
by_refusing Nomap left is = refl
by_refusing Yperr left is = refl
by_refusing s left is = absurd is

pub refusal_filled : WrittenIsReadAgain → (n : ℕ) (draft : Draft) (s : YpStat) (at : ℕ) → IsRefusal s
    → filled (suc n) draft 0 (record { at = at; bytes = spelling (ListOf key_val) (no_row s ∷ []) }) ≡ record { draft = draft; rows = 0; end = Err (Yp s) }
refusal_filled law n draft s at is =
    let rest = (opaque [] ++ opaque []) ++ word 0 in
    let whole = spelling (ListOf key_val) (no_row s ∷ []) in
    let split : whole ≡ word 1 ++ (spelling stat (stat_number s) ++ rest) = simp append_assoc in
    filled_item n 0 draft (record { at = at; bytes = whole }) (Err (Yp s))
    (ap (λ (bytes : List ℕ). all_item_at (record { at = at; bytes = bytes })) split ∙ status_read law s at rest ∙ by_refusing s (record { at = at + 4 + 4; bytes = rest }) is)

-- ---- how long the list is

-- each row takes some bytes
pub rows_fewer : (rows : List Row) → length rows < length (spelling (ListOf key_val) (map row_item rows))
rows_fewer [] = omega arith
rows_fewer (row ∷ rows) =
    let later = flat_map (present (spelling key_val)) (map row_item rows) in
    omega (
      arith,
      rows_fewer rows,
      length-append (item_bytes (row_item row) ++ later) (word 0),
      length-append (item_bytes (row_item row)) later,
      length-append later (word 0),
      length-append (word 1) (spelling key_val (row_item row)),
    )

-- and at most eight more than in the stored body
pub rows_bytes : (rows : List Row) → length (flat_map (present (spelling key_val)) (map row_item rows)) ≡ rows_len rows + 8 * length rows
rows_bytes [] = refl
rows_bytes (row ∷ rows) =
    let later = flat_map (present (spelling key_val)) (map row_item rows) in
    let first = spelling stat (pos 1) in
    let both = opaque row.1 ++ opaque row.0 in
    omega (
      arith,
      rows_bytes rows,
      rows_len-cons row rows,
      length-append (item_bytes (row_item row)) later,
      length-append (word 1) (first ++ both),
      length-append first both,
      length-append (opaque row.1) (opaque row.0),
      length-opaque row.1,
      length-opaque row.0,
    )
