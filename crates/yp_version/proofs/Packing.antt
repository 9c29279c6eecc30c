-- Rows that are spelled behind one another are read again at their places.
use Rattle.std.proofs.Common.{◌≡◌, ℕ, zero, suc, ◌+◌, ◌^◌, ◌<◌, ◌≤◌, List, [], ◌∷◌, ◌++◌, length, take}
use Rattle.std.proofs.Common.{drop, map, replicate, get_or, All, Vec, Global, Result, Ok, Err, IfOk, refl, sym, ap, ◌∙◌}
use Rattle.std.proofs.Common.{subst, append_assoc, arith, add-one}
use Rattle.std.specs.List.{flat_map, AllByRecursion}
use Rattle.std.proofs.Math.ListN.{drop_of_length-le}
use Rattle.std.proofs.Math.Seq.{drop-append_seam, take-append_seam}
use Rattle.std.proofs.lemmas.List.Sums.{sum_by-cons}
use Rattle.std.proofs.lemmas.Nat.{from_be_bytes-to_be_bytes_4}
use Rattle.std.proofs.lemmas.List.{get_or-map, length-append, length-map, length-drop, length-take, length-replicate}
use Rattle.std.proofs.lemmas.List.{append-nil, drop-append-le, drop-drop, take-append-drop, flat_map_more}
use Rattle.std.proofs.lemmas.Option.{slice_get_within, get_or_from_slice_get}
use Rattle.std.proofs.lemmas.List.Elements.{recursion_from_All, All-from_recursion, All-push}
use Rattle.yp_xdr.specs.Kind.{U32, Opaque}
use Rattle.yp_xdr.specs.Spelling.{spelling, opaque, fixed, padding}
use Rattle.yp_xdr.specs.inside.Writing.{written}
use Rattle.yp_version.specs.Limits.{key_max, value_max, body_max}
use Rattle.yp_version.specs.Rows.{Row, padded, row_len, rows_len}
use Rattle.yp_version.specs.inside.Bodies.{row_bytes, spelled_row}
use Rattle.yp_version.specs.inside.Slabs.{Packed, KeepsLimits, IsRowAt, AreRowsAt, Lies, counted, opaque_from, key_from}
use Rattle.yp_version.specs.inside.Slabs.{value_from, row_from, places_from}
use Rattle.yp_version.specs.inside.Slab.{packed_of, IsPacked}
use Rattle.yp_version.specs.declared.slab.Slab.TheInside.{Inside}
use Rattle.yp_version.proofs.Lengths.{length_opaque, length_row, length_rows}

-- what is written at the end of bytes stands behind them
pub written_behind : (buf old bytes : List ℕ) → take (length old) buf ≡ old → length buf ≤ length old + length bytes
    → written buf (length old) bytes ≡ old ++ bytes
written_behind buf old bytes front room =
    (λ i. front i ++ bytes ++ drop_of_length-le buf room i) ∙ append-nil (old ++ bytes)

-- what fills a buffer is all of it
pub written_all : (buf bytes : List ℕ) → length buf ≤ length bytes → written buf 0 bytes ≡ bytes
written_all buf bytes room = written_behind buf [] bytes refl (omega arith)

zeros_len : (row : Row) → length (replicate {A = ℕ} (row_len row) 0) ≡ row_len row
zeros_len row = length-replicate (row_len row) 0

-- a row that is written into as many zeros stands in their place
pub row_there : (old buf : List ℕ) (row : Row) → buf ≡ old ++ replicate (row_len row) 0
    → written buf (length old) (row_bytes row) ≡ old ++ row_bytes row
row_there old buf row is =
    let front : take (length old) buf ≡ old = ap (take (length old)) is ∙ take-append_seam old (replicate (row_len row) 0) in
    let zeros : List ℕ = replicate (row_len row) 0 in
    let len : length buf ≤ length old + length (row_bytes row) =
    omega (arith, ap length is, length-append old zeros, zeros_len row, length_row row) in
    written_behind buf old (row_bytes row) front len

-- the place of one more row
pub places_push : (at : ℕ) (rows : List Row) (row : Row) → places_from at (rows ++ row ∷ []) ≡ places_from at rows ++ (at + rows_len rows) ∷ []
places_push at [] row = ap (λ n. n ∷ []) (let e : at ≡ at + 0 = omega arith in e)
places_push at (first ∷ rows) row =
    ap (λ l. at ∷ l) (places_push (at + row_len first) rows row
    ∙ ap (λ n. places_from (at + row_len first) rows ++ n ∷ []) (let c = sum_by-cons row_len first rows in let e : at + row_len first + rows_len rows ≡ at + rows_len (first ∷ rows) = omega arith in e))

-- rows that keep the limits, by recursion
abbrev FitsRow : Row → Type 0
FitsRow row = (length row.0 ≤ key_max) × (length row.1 ≤ value_max)

both : (rows : List Row) → AllByRecursion (λ row. length row.0 ≤ key_max) rows
    → AllByRecursion (λ row. length row.1 ≤ value_max) rows → AllByRecursion FitsRow rows
both [] keys values = tt
both (row ∷ rows) keys values = ((keys.0, values.0), both rows keys.1 values.1)

fits_all : (rows : List Row) → KeepsLimits rows → AllByRecursion FitsRow rows
fits_all rows within = both rows (recursion_from_All (λ (row : Row). length row.0 ≤ key_max) rows within.keys)
    (recursion_from_All (λ (row : Row). length row.1 ≤ value_max) rows within.values)

-- what holds of a slab holds of the one that was made
pub if_gathered : {E : Type 0} (P : Packed → Type 0) (result : Result Packed E) (slab : Packed) → IfOk result (λ made. made ≡ slab) → P slab → IfOk result P
if_gathered P (Ok made) slab is holds = subst P (sym is) holds
if_gathered P (Err e) slab is holds = tt

pub bytes_len : (inside : Inside) → IsPacked inside
    → length inside.bytes.items ≡ length (packed_of inside).head + rows_len (packed_of inside).rows
bytes_len inside kept =
    ap length kept.lies.bytes ∙ length-append (packed_of inside).head (flat_map row_bytes (packed_of inside).rows)
    ∙ ap (λ n. length (packed_of inside).head + n) (length_rows (packed_of inside).rows)

counted_read : (content rest : List ℕ) → length content < 2 ^ 32 → counted (opaque content ++ rest) ≡ content
unfolding opaque fixed
counted_read content rest few =
    ap (λ n. take n ((content ++ padding (length content)) ++ rest)) (from_be_bytes-to_be_bytes_4 (length content) few)
    ∙ ap (take (length content)) (append_assoc content (padding (length content)) rest)
    ∙ take-append_seam content (padding (length content) ++ rest)

opaque_read : (max : ℕ) (front content rest : List ℕ) → length content ≤ max → max < 2 ^ 32
    → opaque_from (front ++ (spelling (Opaque max) content ++ rest)) (length front) ≡ content
unfolding opaque_from
opaque_read max front content rest few small =
    ap counted (drop-append_seam front (spelling (Opaque max) content ++ rest)) ∙ counted_read content rest (omega arith)

row_read : (front : List ℕ) (row : Row) (rest : List ℕ) → FitsRow row → row_from (front ++ (row_bytes row ++ rest)) (length front) ≡ row
unfolding row_bytes
row_read front row rest fits =
    let a = spelling (Opaque key_max) row.0 in
    let b = spelling (Opaque value_max) row.1 in
    let whole = front ++ ((a ++ b) ++ rest) in
    let one : whole ≡ front ++ (a ++ (b ++ rest)) = ap (λ l. front ++ l) (append_assoc a b rest) in
    let two : whole ≡ (front ++ a) ++ (b ++ rest) = one ∙ sym (append_assoc front a (b ++ rest)) in
    let key : key_from whole (length front) ≡ row.0 =
    ap (λ l. key_from l (length front)) one ∙ opaque_read key_max front row.0 (b ++ rest) fits.0 (omega arith) in
    let place : length front + (4 + padded (length row.0)) ≡ length (front ++ a) =
    omega (arith, length-append front a, length_opaque key_max row.0) in
    let value : value_from whole (length front) ≡ row.1 =
    ap (λ k. opaque_from whole (length front + (4 + padded (length k)))) key
    ∙ ap (opaque_from whole) place
    ∙ ap (λ l. opaque_from l (length (front ++ a))) two
    ∙ opaque_read value_max (front ++ a) row.1 rest fits.1 (omega arith) in
    λ i. (key i, value i)

rows_read : (front : List ℕ) (rows : List Row) → AllByRecursion FitsRow rows
    → map (row_from (front ++ flat_map row_bytes rows)) (places_from (length front) rows) ≡ rows
rows_read front [] fits = refl
rows_read front (row ∷ rows) fits =
    let whole = front ++ (row_bytes row ++ flat_map row_bytes rows) in
    let first = row_read front row (flat_map row_bytes rows) fits.0 in
    let split : whole ≡ (front ++ row_bytes row) ++ flat_map row_bytes rows =
    sym (append_assoc front (row_bytes row) (flat_map row_bytes rows)) in
    let place : length front + row_len row ≡ length (front ++ row_bytes row) =
    omega (arith, length-append front (row_bytes row), length_row row) in
    let others : map (row_from whole) (places_from (length front + row_len row) rows) ≡ rows =
    (λ i. map (row_from (split i)) (places_from (place i) rows)) ∙ rows_read (front ++ row_bytes row) rows fits.1 in
    λ i. first i ∷ others i

-- a row that is spelled behind bytes stands there
row_at : (front : List ℕ) (row : Row) (rest : List ℕ) → FitsRow row → IsRowAt (front ++ (row_bytes row ++ rest)) (length front)
row_at front row rest fits =
    let whole = front ++ (row_bytes row ++ rest) in
    let read : row ≡ row_from whole (length front) = sym (row_read front row rest fits) in
    let behind : take (row_len row) (drop (length front) whole) ≡ row_bytes row =
    ap (take (row_len row)) (drop-append_seam front (row_bytes row ++ rest))
    ∙ ap (λ n. take n (row_bytes row ++ rest)) (sym (length_row row))
    ∙ take-append_seam (row_bytes row) rest in
    record {
      key = subst (λ (r : Row). length r.0 ≤ key_max) read fits.0;
      value = subst (λ (r : Row). length r.1 ≤ value_max) read fits.1;
      spelled = subst (λ (r : Row). take (row_len r) (drop (length front) whole) ≡ row_bytes r) read behind;
    }

rows_at : (front : List ℕ) (rows : List Row) → AllByRecursion FitsRow rows
    → AllByRecursion (IsRowAt (front ++ flat_map row_bytes rows)) (places_from (length front) rows)
rows_at front [] fits = tt
rows_at front (row ∷ rows) fits =
    let split : (front ++ row_bytes row) ++ flat_map row_bytes rows ≡ front ++ (row_bytes row ++ flat_map row_bytes rows) =
    append_assoc front (row_bytes row) (flat_map row_bytes rows) in
    let place : length (front ++ row_bytes row) ≡ length front + row_len row =
    omega (arith, length-append front (row_bytes row), length_row row) in
    let others = rows_at (front ++ row_bytes row) rows fits.1 in (
      row_at front row (flat_map row_bytes rows) fits.0,
      subst (λ (n : ℕ). AllByRecursion (IsRowAt (front ++ (row_bytes row ++ flat_map row_bytes rows))) (places_from n rows)) place
          (subst (λ (l : List ℕ). AllByRecursion (IsRowAt l) (places_from (length (front ++ row_bytes row)) rows)) split others),
    )

-- the rows of a slab stand at their places
pub slab_rows_at : (inside : Inside) → IsPacked inside → All (IsRowAt inside.bytes.items) inside.places.items
slab_rows_at inside kept =
    let head = (packed_of inside).head in
    let rows = (packed_of inside).rows in
    let there = All-from_recursion (IsRowAt (head ++ flat_map row_bytes rows)) (places_from (length head) rows) (rows_at head rows (fits_all rows kept.lies.within)) in
    subst (λ (l : List ℕ). All (IsRowAt l) inside.places.items) (sym kept.lies.bytes)
    (subst (λ (l : List ℕ). All (IsRowAt (head ++ flat_map row_bytes rows)) l) (sym kept.lies.places) there)

-- a row that stands at a place is its key and its value, each as it is spelled
pub spelled_at : (bytes : List ℕ) (place k v : ℕ) → IsRowAt bytes place
    → k ≡ 4 + padded (length (key_from bytes place)) → v ≡ 4 + padded (length (value_from bytes place))
    → (take k (drop place bytes), take v (drop (place + k) bytes)) ≡ spelled_row (row_from bytes place)
unfolding row_bytes
spelled_at bytes place k v at key value =
    let row = row_from bytes place in
    let a = spelling (Opaque key_max) row.0 in
    let b = spelling (Opaque value_max) row.1 in
    let all = drop place bytes in
    let rest = drop (row_len row) all in
    let split : all ≡ a ++ (b ++ rest) =
    sym (take-append-drop (row_len row) all) ∙ ap (λ l. l ++ rest) at.spelled ∙ append_assoc a b rest in
    let first : k ≡ length a = key ∙ sym (length_opaque key_max row.0) in
    let second : v ≡ length b = value ∙ sym (length_opaque value_max row.1) in
    let key_is : take k all ≡ a = (λ i. take (first i) (split i)) ∙ take-append_seam a (b ++ rest) in
    let behind : drop (place + k) bytes ≡ b ++ rest =
    sym (drop-drop k place bytes) ∙ (λ i. drop (first i) (split i)) ∙ drop-append_seam a (b ++ rest) in
    let value_is : take v (drop (place + k) bytes) ≡ b = (λ i. take (second i) (behind i)) ∙ take-append_seam b rest in
    λ i. (key_is i, value_is i)

-- a row that stands at a place has its bytes within those that it stands in
pub row_within : (bytes : List ℕ) (place : ℕ) → IsRowAt bytes place → place + row_len (row_from bytes place) ≤ length bytes
row_within bytes place at =
    let row = row_from bytes place in
    let size = ap length at.spelled ∙ length_row row in
    let taken = length-take (row_len row) (drop place bytes) in
    let left = length-drop place bytes in
    omega arith

-- the place behind a row is that of the next one, or the end of all
next_place : (at : ℕ) (rows : List Row) (i d : ℕ) (none : Row) → i < length rows
    → get_or (places_from at rows) (suc i) (at + rows_len rows)
    ≡ get_or (places_from at rows) i d + row_len (get_or rows i none)
next_place at [] i d none lt = absurd (omega arith)
next_place at (row ∷ []) zero d none lt =
    let c = sum_by-cons row_len row [] in let e : at + rows_len (row ∷ []) ≡ at + row_len row = omega arith in e
next_place at (row ∷ other ∷ rows) zero d none lt = refl
next_place at (row ∷ rows) (suc i) d none lt =
    let c = sum_by-cons row_len row rows in
    let e : at + rows_len (row ∷ rows) ≡ at + row_len row + rows_len rows = omega arith in
    ap (λ (n : ℕ). get_or (places_from (at + row_len row) rows) (suc i) n) e
    ∙ next_place (at + row_len row) rows i d none (omega arith)

-- the next place, or the end of all bytes, is behind the row with a number
row_ends : (inside : Inside) → IsPacked inside → (i place : ℕ) → i < length inside.places.items
    → place ≡ get_or inside.places.items i place
    → get_or inside.places.items (i + 1) (length inside.bytes.items)
    ≡ place + row_len (row_from inside.bytes.items place)
row_ends inside kept i place within is =
    let head = (packed_of inside).head in
    let rows = (packed_of inside).rows in
    let places = kept.lies.places in
    let count : length rows ≡ length inside.places.items =
    length-map inside.places.items (row_from inside.bytes.items) in
    let size : length inside.bytes.items ≡ length head + rows_len rows =
    omega (arith, ap length kept.lies.bytes, length-append head (flat_map row_bytes rows), length_rows rows) in
    let row_is : get_or rows i (row_from inside.bytes.items place) ≡ row_from inside.bytes.items place =
    get_or-map (row_from inside.bytes.items) inside.places.items i place
    (row_from inside.bytes.items place) within ∙ ap (row_from inside.bytes.items) (sym is) in
    let step : i + 1 ≡ suc i = add-one i in
    (λ j. get_or (places j) (step j) (size j))
    ∙ next_place (length head) rows i place (row_from inside.bytes.items place) (omega (arith, count))
    ∙ (λ j. (sym (is ∙ ap (λ (l : List ℕ). get_or l i place) places)) j + row_len (row_is j))

-- the rows of a slab stand at their places, and each ends where the next one begins
pub slab_spelled : (inside : Inside) → IsPacked inside → AreRowsAt inside.bytes.items inside.places.items
slab_spelled inside kept = record {
  there = slab_rows_at inside kept;
  ends = λ i place at.
      row_ends inside kept i place (slice_get_within inside.places.items i place at)
      (sym (get_or_from_slice_get inside.places.items i place place at));
}

-- the fields hold these rows behind this head
pub packed_view : (inside : Inside) (head : List ℕ) (rows : List Row) → KeepsLimits rows
    → inside.bytes.items ≡ head ++ flat_map row_bytes rows → inside.head_len ≡ length head
    → inside.places.items ≡ places_from (length head) rows
    → packed_of inside ≡ record { head = head; rows = rows }
packed_view inside head rows within bytes len places =
    let front : take inside.head_len inside.bytes.items ≡ head =
    (λ i. take (len i) (bytes i)) ∙ take-append_seam head (flat_map row_bytes rows) in
    let all : map (row_from inside.bytes.items) inside.places.items ≡ rows =
    (λ i. map (row_from (bytes i)) (places i)) ∙ rows_read head rows (fits_all rows within) in
    λ i. record { head = front i; rows = all i }

pub packed_kept : (inside : Inside) (head : List ℕ) (rows : List Row) → KeepsLimits rows
    → inside.bytes.items ≡ head ++ flat_map row_bytes rows → inside.head_len ≡ length head
    → inside.places.items ≡ places_from (length head) rows → length inside.bytes.items ≤ body_max → IsPacked inside
packed_kept inside head rows within bytes len places small =
    let view = packed_view inside head rows within bytes len places in
    record {
      lies = subst (Lies inside.bytes.items inside.places.items) (sym view)
          (record { within = within; bytes = bytes; places = places; small = small });
      head = len ∙ ap (λ (p : Packed). length p.head) (sym view);
    }

-- one more row
within_push : (rows : List Row) (row : Row) → KeepsLimits rows → FitsRow row → KeepsLimits (rows ++ row ∷ [])
within_push rows row within fits = record {
  keys = All-push (λ (row : Row). length row.0 ≤ key_max) rows row within.keys fits.0;
  values = All-push (λ (row : Row). length row.1 ≤ value_max) rows row within.values fits.1;
}

pub more_bytes : (inside : Inside) (row : Row) → IsPacked inside
    → inside.bytes.items ++ row_bytes row
    ≡ (packed_of inside).head ++ flat_map row_bytes ((packed_of inside).rows ++ row ∷ [])
more_bytes inside row kept =
    ap (λ l. l ++ row_bytes row) kept.lies.bytes
    ∙ flat_map_more row_bytes (packed_of inside).head (packed_of inside).rows row

pub more_places : (inside : Inside) (row : Row) → IsPacked inside
    → inside.places.items ++ length inside.bytes.items ∷ []
    ≡ places_from (length (packed_of inside).head) ((packed_of inside).rows ++ row ∷ [])
more_places inside row kept =
    (λ i. kept.lies.places i ++ bytes_len inside kept i ∷ [])
    ∙ sym (places_push (length (packed_of inside).head) (packed_of inside).rows row)

pub pushed_view : (old : Inside) (bytes places : Vec ℕ Global) (row : Row) → IsPacked old → FitsRow row
    → bytes.items ≡ old.bytes.items ++ row_bytes row
    → places.items ≡ old.places.items ++ length old.bytes.items ∷ []
    → packed_of (record old { bytes = bytes; places = places }) ≡ record (packed_of old) { rows = (packed_of old).rows ++ row ∷ [] }
pushed_view old bytes places row kept fits bytes_are places_are =
    packed_view (record old { bytes = bytes; places = places }) (packed_of old).head ((packed_of old).rows ++ row ∷ [])
    (within_push (packed_of old).rows row kept.lies.within fits)
    (bytes_are ∙ more_bytes old row kept) kept.head (places_are ∙ more_places old row kept)

pub pushed_kept : (old : Inside) (bytes places : Vec ℕ Global) (row : Row) → IsPacked old → FitsRow row
    → length (packed_of old).head + rows_len (packed_of old).rows + row_len row ≤ body_max
    → bytes.items ≡ old.bytes.items ++ row_bytes row
    → places.items ≡ old.places.items ++ length old.bytes.items ∷ []
    → IsPacked (record old { bytes = bytes; places = places })
pushed_kept old bytes places row kept fits room bytes_are places_are =
    packed_kept (record old { bytes = bytes; places = places }) (packed_of old).head ((packed_of old).rows ++ row ∷ [])
    (within_push (packed_of old).rows row kept.lies.within fits)
    (bytes_are ∙ more_bytes old row kept) kept.head (places_are ∙ more_places old row kept)
    (let a = ap length bytes_are in let b = length-append old.bytes.items (row_bytes row) in let d = length_row row in let e = bytes_len old kept in omega arith)

-- another first word
worded : (inside : Inside) (word : ℕ) → IsPacked inside → 4 ≤ length (packed_of inside).head
    → written inside.bytes.items 0 (spelling U32 word)
    ≡ (spelling U32 word ++ drop 4 (packed_of inside).head) ++ flat_map row_bytes (packed_of inside).rows
worded inside word kept long =
    ap (λ l. spelling U32 word ++ drop 4 l) kept.lies.bytes
    ∙ ap (λ l. spelling U32 word ++ l) (drop-append-le 4 (packed_of inside).head (flat_map row_bytes (packed_of inside).rows) long)
    ∙ sym (append_assoc (spelling U32 word) (drop 4 (packed_of inside).head) (flat_map row_bytes (packed_of inside).rows))

worded_len : (head : List ℕ) (word : ℕ) → 4 ≤ length head → length head ≡ length (spelling U32 word ++ drop 4 head)
worded_len head word long =
    omega (arith, length-append (spelling U32 word) (drop 4 head), length-drop 4 head)

pub worded_view : (old : Inside) (bytes : Vec ℕ Global) (word : ℕ) → IsPacked old → 4 ≤ length (packed_of old).head
    → bytes.items ≡ written old.bytes.items 0 (spelling U32 word)
    → packed_of (record old { bytes = bytes }) ≡ record (packed_of old) { head = spelling U32 word ++ drop 4 (packed_of old).head }
worded_view old bytes word kept long bytes_are =
    packed_view (record old { bytes = bytes }) (spelling U32 word ++ drop 4 (packed_of old).head) (packed_of old).rows kept.lies.within
    (bytes_are ∙ worded old word kept long) (kept.head ∙ worded_len (packed_of old).head word long)
    (kept.lies.places ∙ ap (λ n. places_from n (packed_of old).rows) (worded_len (packed_of old).head word long))

pub worded_kept : (old : Inside) (bytes : Vec ℕ Global) (word : ℕ) → IsPacked old → 4 ≤ length (packed_of old).head
    → bytes.items ≡ written old.bytes.items 0 (spelling U32 word) → IsPacked (record old { bytes = bytes })
worded_kept old bytes word kept long bytes_are =
    packed_kept (record old { bytes = bytes }) (spelling U32 word ++ drop 4 (packed_of old).head) (packed_of old).rows kept.lies.within
    (bytes_are ∙ worded old word kept long) (kept.head ∙ worded_len (packed_of old).head word long)
    (kept.lies.places ∙ ap (λ n. places_from n (packed_of old).rows) (worded_len (packed_of old).head word long))
    (let s = kept.lies.small in
    let len = ap length (bytes_are ∙ worded old word kept long) in
    let a = length-append (spelling U32 word ++ drop 4 (packed_of old).head) (flat_map row_bytes (packed_of old).rows) in
    let b = ap length kept.lies.bytes in
    let c = length-append (packed_of old).head (flat_map row_bytes (packed_of old).rows) in
    let d = worded_len (packed_of old).head word long in
    omega arith)

-- another head
headed : (inside : Inside) (head : List ℕ) → IsPacked inside → length head ≡ length (packed_of inside).head
    → written inside.bytes.items 0 head ≡ head ++ flat_map row_bytes (packed_of inside).rows
headed inside head kept len =
    ap (λ n. head ++ drop n inside.bytes.items) (let e : 0 + length head ≡ length (packed_of inside).head = omega arith in e)
    ∙ ap (λ l. head ++ drop (length (packed_of inside).head) l) kept.lies.bytes
    ∙ ap (λ l. head ++ l) (drop-append_seam (packed_of inside).head (flat_map row_bytes (packed_of inside).rows))

pub headed_view : (old : Inside) (bytes : Vec ℕ Global) (head : List ℕ) → IsPacked old → length head ≡ length (packed_of old).head
    → bytes.items ≡ written old.bytes.items 0 head
    → packed_of (record old { bytes = bytes }) ≡ record (packed_of old) { head = head }
headed_view old bytes head kept len bytes_are =
    packed_view (record old { bytes = bytes }) head (packed_of old).rows kept.lies.within
    (bytes_are ∙ headed old head kept len) (kept.head ∙ sym len)
    (kept.lies.places ∙ ap (λ n. places_from n (packed_of old).rows) (sym len))

pub headed_kept : (old : Inside) (bytes : Vec ℕ Global) (head : List ℕ) → IsPacked old → length head ≡ length (packed_of old).head
    → bytes.items ≡ written old.bytes.items 0 head → IsPacked (record old { bytes = bytes })
headed_kept old bytes head kept len bytes_are =
    packed_kept (record old { bytes = bytes }) head (packed_of old).rows kept.lies.within
    (bytes_are ∙ headed old head kept len) (kept.head ∙ sym len)
    (kept.lies.places ∙ ap (λ n. places_from n (packed_of old).rows) (sym len))
    (let s = kept.lies.small in
    let e = ap length (bytes_are ∙ headed old head kept len) in
    let a = length-append head (flat_map row_bytes (packed_of old).rows) in
    let b = ap length kept.lies.bytes in
    let d = length-append (packed_of old).head (flat_map row_bytes (packed_of old).rows) in
    omega arith)
