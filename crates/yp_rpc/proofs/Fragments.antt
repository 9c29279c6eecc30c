-- Lemmas on the fragments of a record, one after another.
use Rattle.std.proofs.Common.{◌≡◌, ◌≢◌, ℕ, ◌+◌, ◌-◌, ◌^◌, ◌<◌, ◌≤◌, Bool, true, false, ◌==◌, ◌⊎◌, List, [], ◌∷◌, ◌++◌}
use Rattle.std.proofs.Common.{Option, length, take, min, refl, sym, ap, ◌∙◌, arith, inl, inr, eq-eqb}
use Rattle.std.proofs.lemmas.List.{length-append, length-take-le, append-nil}
use Rattle.std.proofs.lemmas.List.Concat.{flat_map-append}
use Rattle.std.proofs.lemmas.List.Elements.{All-push}
use Rattle.std.proofs.lemmas.Bool.{ne_eqb}
use Rattle.std.proofs.KnownBytes.{Consumes-trans}
use Rattle.std.specs.Io.KnownBytes.{Consumes, IsAtEnd}
use mir.Val.{bool_byte}
use Rattle.yp_io.specs.Counts.{HasRisen, last_count}
use Rattle.yp_rpc.specs.declared.record.RecordFault.{RecordFault}
use Rattle.yp_rpc.specs.declared.record.RecordFault.TheVariants.{Torn, TooLong, ReadFault}
use Rattle.yp_rpc.proofs.Stream.{take-behind, ReadsBehind, read_behind, length-room, length-read_behind}
use Rattle.yp_rpc.proofs.CutPieces.{blank, blank_is, empties-cons, empties-append, length-joined, length-joined_push}
use Rattle.yp_rpc.specs.Records.{empty_max, IsShort, head, fragment, begun, joined, empties, AreWithin, IsPart}
use Rattle.yp_rpc.specs.Records.{IsUnfinished, IsEmpty, TakesRecord, record_start, HasCause}
use Rattle.yp_rpc.specs.inside.Records.{begun_record, HasNoFragment}

-- input ended behind the head of a fragment
pub torn_body : (last : Bool) (len n room empty place : ℕ) (body : List ℕ) (old mid new : Option (List ℕ))
    → len < 2 ^ 31 → len ≤ room → n < len → n ≤ length body
    → Consumes old mid (head last len) → Consumes mid new (take n body) → IsAtEnd new
    → HasNoFragment (begun_record room empty place) old new 0 0 (Torn place)
torn_body last len n room empty place body old mid new short fits fewer within first second end =
    let size : length (take n body) ≡ n = length-take-le n body within in
    let some : 0 < length (head last len ++ take n body) =
    omega (arith, length-append (head last len) (take n body)) in (
      refl,
      head last len ++ take n body,
      some,
      inr
          (last, len, take n body, refl, omega arith, short, omega arith),
      Consumes-trans old mid new _ _ first second,
      end,
    )

-- the source failed behind the head of a fragment
pub failed_body : (last : Bool) (len room empty place before now after : ℕ) (body : List ℕ)
    (old mid new : Option (List ℕ)) → len < 2 ^ 31 → len ≤ room → length body < len
    → Consumes old mid (head last len) → Consumes mid new body → before ≤ now → HasRisen now after
    → HasNoFragment (begun_record room empty place) old new before after ReadFault
failed_body last len room empty place before now after body old mid new short fits fewer first second rose risen = (
  omega arith,
  head last len
      ++ body,
  Consumes-trans old mid new _ _ first second,
  inr (last, len, body, refl, fewer, short, omega arith),
)

-- a fragment takes four bytes more than its piece
pub length-fragment : (last : Bool) (piece : List ℕ) → length (fragment last piece) ≡ 4 + length piece
length-fragment last piece = length-append (head last (length piece)) piece

-- one piece more behind the joined ones
pub joined-push : (pieces : List (List ℕ)) (piece : List ℕ) → joined (pieces ++ piece ∷ []) ≡ joined pieces ++ piece
joined-push pieces piece =
    flat_map-append (λ (p : List ℕ). p) pieces (piece ∷ [])
    ∙ ap (λ (bytes : List ℕ). joined pieces ++ bytes) (append-nil piece)

-- one fragment more behind the begun ones
pub begun-push : (pieces : List (List ℕ)) (piece : List ℕ)
    → begun (pieces ++ piece ∷ []) ≡ begun pieces ++ fragment false piece
begun-push pieces piece =
    flat_map-append (fragment false) pieces (piece ∷ [])
    ∙ ap (λ (bytes : List ℕ). begun pieces ++ bytes) (append-nil (fragment false piece))

-- the code counts an empty piece as 1, and another as 0
pub bool_byte-blank : (piece : List ℕ) (len : ℕ) → length piece ≡ len → bool_byte (len == 0) ≡ blank piece
bool_byte-blank piece len same =
    elim (blank_is piece) [
      | inl none ↦ ap bool_byte (eq-eqb len 0 (omega arith)) ∙ sym none.1
      | inr some ↦ ap bool_byte (ne_eqb len 0 (λ none. omega arith)) ∙ sym some.1
    ]

-- where there is no byte and no empty piece there is no piece
none_begun : (pieces : List (List ℕ)) → length (joined pieces) ≡ 0 → empties pieces ≡ 0 → pieces ≡ []
none_begun [] few none = refl
none_begun (piece ∷ pieces) few none =
    elim (blank_is piece) [
      | inl empty ↦ absurd (omega (arith, empty.1, empties-cons piece pieces, none))
      | inr some ↦ absurd (omega (arith, some.0, length-joined piece pieces, few))
    ]

-- where no fragment has begun there is no piece
no_byte_begun : (pieces : List (List ℕ)) → length (begun pieces) ≡ 0 → pieces ≡ []
no_byte_begun [] none = refl
no_byte_begun (piece ∷ pieces) none =
    absurd (omega (arith, length-append (fragment false piece) (begun pieces), length-fragment false piece))

-- a begun record with a byte or an empty fragment is some bytes
pub some_begun : (pieces : List (List ℕ)) (tail : List ℕ) → 0 < length (joined pieces) + empties pieces
    → begun pieces ++ tail ≢ []
some_begun pieces tail some none =
    let nothing : pieces ≡ [] =
    no_byte_begun pieces (omega (arith, length-append (begun pieces) tail, ap length none)) in
    let bytes : length (joined pieces) ≡ 0 = ap (λ (ps : List (List ℕ)). length (joined ps)) nothing in
    let count : empties pieces ≡ 0 = ap empties nothing in
    omega arith

-- one piece more is within the limit
pub AreWithin-push : (limit : ℕ) (pieces : List (List ℕ)) (piece : List ℕ) → AreWithin limit pieces → IsShort piece
    → length (joined pieces) + length piece ≤ limit → (length piece ≡ 0 → empties pieces < empty_max)
    → AreWithin limit (pieces ++ piece ∷ [])
AreWithin-push limit pieces piece within short fits few = record {
  len = omega (arith, length-joined_push pieces piece);
  empty = elim (blank_is piece) [
    | inl none ↦ omega (arith, few none.0, none.1, empties-append pieces (piece ∷ []))
    | inr some ↦ omega (arith, within.empty, some.1, empties-append pieces (piece ∷ []))
  ];
  short = All-push IsShort pieces piece within.short short;
}

-- How far a record has come: the bytes so far, how many fragments were empty, and the place behind them.
pub record HasBegun (limit : ℕ) (old now : Option (List ℕ)) (front : List ℕ) (empty place end : ℕ) : Type 0 where
  pub pieces : List (List ℕ)
  pub taken : Consumes old now (begun pieces)
  pub filled : joined pieces ≡ front
  pub within : AreWithin limit pieces
  pub counted : empties pieces ≡ empty
  pub passed : end ≡ min (place + length (begun pieces)) last_count

-- one fragment more, which isn't the last
HasBegun-push : (limit empty empty' place end end' : ℕ) (old now new : Option (List ℕ)) (front piece : List ℕ)
    → HasBegun limit old now front empty place end
    → Consumes now new (fragment false piece) → length front + length piece ≤ limit
    → (length piece ≡ 0 → empty < empty_max) → IsShort piece
    → empty' ≡ empty + blank piece → end' ≡ min (end + (4 + length piece)) last_count
    → HasBegun limit old new (front ++ piece) empty' place end'
HasBegun-push limit empty empty' place end end' old now new front piece h taken fits few short counted passed =
    let so_far : length (joined h.pieces) ≡ length front = ap length h.filled in
    record {
      pieces = h.pieces ++ piece ∷ [];
      taken = rw (begun-push h.pieces piece) (Consumes-trans old now new _ _ h.taken taken);
      filled = rw (joined-push h.pieces piece, h.filled) refl;
      within = AreWithin-push limit h.pieces piece h.within short (omega arith)
          (λ none. omega (arith, few none, h.counted));
      counted = empties-append h.pieces (piece ∷ []) ∙ ap (λ (n : ℕ). n + blank piece) h.counted ∙ sym counted;
      passed = rw (begun-push h.pieces piece)
          (omega (arith, h.passed, length-append (begun h.pieces) (fragment false piece), length-fragment false piece));
    }

-- the last fragment
TakesRecord-push : (limit empty place end end' : ℕ) (old now new : Option (List ℕ)) (front piece : List ℕ)
    → HasBegun limit old now front empty place end
    → Consumes now new (fragment true piece) → length front + length piece ≤ limit
    → (length piece ≡ 0 → empty < empty_max) → IsShort piece
    → end' ≡ min (end + (4 + length piece)) last_count → TakesRecord limit (front ++ piece) old new place end'
TakesRecord-push limit empty place end end' old now new front piece h taken fits few short passed =
    let so_far : length (joined h.pieces) ≡ length front = ap length h.filled in
    record {
      bytes = begun h.pieces ++ fragment true piece;
      fragments = record {
        pieces = h.pieces;
        last = piece;
        whole = rw h.filled refl;
        spelled = refl;
        within = AreWithin-push limit h.pieces piece h.within short (omega arith)
            (λ none. omega (arith, few none, h.counted));
      };
      taken = Consumes-trans old now new _ _ h.taken taken;
      counted = omega (
        arith,
        h.passed,
        length-append (begun h.pieces)
            (fragment true piece),
        length-fragment true piece,
      );
    }

-- what is within the room behind the pieces is within the limit
IsPart-behind : (limit room : ℕ) (pieces : List (List ℕ)) (tail : List ℕ) → length (joined pieces) + room ≤ limit
    → IsPart room [] tail → IsPart limit pieces tail
IsPart-behind limit room pieces tail fits (inl few) = inl few
IsPart-behind limit room pieces tail fits (inr h) = inr (h.0, h.1, h.2, h.3, h.4, h.5, omega (arith, h.6))

-- a list is empty or has something
nil_or_some : (bytes : List ℕ) → (bytes ≡ []) ⊎ (bytes ≢ [])
nil_or_some [] = inl refl
nil_or_some (byte ∷ bytes) = inr (λ none. cc)

-- whole fragments and part of one are less than a record
pub IsBegun-part : (limit : ℕ) (pieces : List (List ℕ)) (tail : List ℕ) → AreWithin limit pieces
    → IsPart limit pieces tail → IsUnfinished limit (begun pieces ++ tail)
IsBegun-part limit pieces tail within part =
    elim (nil_or_some (begun pieces ++ tail)) [
      | inl none ↦ inl none
      | inr some ↦ inr (record
          { pieces = pieces; tail = tail; begins = refl; some = some; within = within; part = part })
    ]

-- Why a record has no next fragment is why there is no record.
pub HasCause-behind : (limit room empty place end before now after : ℕ) (old mid new : Option (List ℕ))
    (front : List ℕ) (fault : RecordFault) → HasBegun limit old mid front empty place end
    → length front + room ≡ limit → before ≤ now → HasNoFragment (begun_record room empty place) mid new now after fault
    → HasCause (record_start limit place old) new before after fault
HasCause-behind limit room empty place end before now after old mid new front (Torn at) h fits rose cause =
    let so_far : length (joined h.pieces) ≡ length front = ap length h.filled in
    let tail = cause.1 in
    let some : begun h.pieces ++ tail ≢ [] =
    λ none. absurd (omega (arith, length-append (begun h.pieces) tail, ap length none, cause.2)) in (
      cause.0,
      begun h.pieces ++ tail,
      record {
        pieces = h.pieces;
        tail = tail;
        begins = refl;
        some = some;
        within = h.within;
        part =
            IsPart-behind limit room h.pieces tail (omega arith) cause.3;
      },
      Consumes-trans old mid new _ _ h.taken cause.4,
      cause.5,
    )
HasCause-behind limit room empty place end before now after old mid new front (TooLong at) h fits rose cause =
    let so_far : length (joined h.pieces) ≡ length front = ap length h.filled in
    let most : empties h.pieces ≤ empty_max = h.within.empty in
    let last = cause.1 in
    let len = cause.2 in (
      cause.0,
      begun h.pieces ++ head last len,
      record {
        pieces = h.pieces;
        last = last;
        len = len;
        begins = refl;
        within = h.within;
        short = cause.3;
        past = elim cause.4 [ inl far ↦ inl (omega arith) | inr many ↦ inr (many.0, omega (arith, many.1, h.counted)) ];
      },
      Consumes-trans old mid new _ _ h.taken cause.5,
    )
HasCause-behind limit room empty place end before now after old mid new front ReadFault h fits rose cause =
    let so_far : length (joined h.pieces) ≡ length front = ap length h.filled in
    let tail = cause.1 in (
      omega (arith, cause.0),
      begun h.pieces ++ tail,
      Consumes-trans old mid new _ _ h.taken cause.2,
      IsBegun-part limit h.pieces tail h.within (IsPart-behind limit room h.pieces tail (omega arith) cause.3),
    )

-- input ended behind some whole fragments
pub torn_between : (limit empty place end : ℕ) (old now new : Option (List ℕ)) (front : List ℕ)
    → HasBegun limit old now front empty place end → 0 < length front + empty → IsEmpty now new
    → HasCause (record_start limit place old) new 0 0 (Torn place)
torn_between limit empty place end old now new front h some none =
    let so_far : length (joined h.pieces) ≡ length front = ap length h.filled in (
      refl,
      begun h.pieces ++ [],
      record {
        pieces = h.pieces;
        tail = [];
        begins = refl;
        some =
            some_begun h.pieces [] (omega (arith, h.counted));
        within = h.within;
        part = inl (omega arith);
      },
      Consumes-trans old now new _ _ h.taken none.0,
      none.1,
    )

-- input ended before a first fragment
pub none_at_all : (limit place end : ℕ) (old now new : Option (List ℕ)) (front : List ℕ)
    → HasBegun limit old now front 0 place end → length front ≡ 0 → IsEmpty now new → IsEmpty old new
none_at_all limit place end old now new front h none empty =
    let nothing : h.pieces ≡ [] = none_begun h.pieces (ap length h.filled ∙ none) h.counted in
    let taken : Consumes old now [] = rw nothing at h.taken in
    (Consumes-trans old now new [] [] taken empty.0, empty.1)

-- How far a record has come in a buffer, of which its bytes are the first len.
abbrev pub HasFilled : Option (List ℕ) → Option (List ℕ) → List ℕ → ℕ → ℕ → ℕ → ℕ → Type 0
HasFilled old now buf len empty place end = HasBegun (length buf) old now (take len buf) empty place end

-- one fragment more was read behind them, which isn't the last
pub HasFilled-more : (buf room : List ℕ) (len n empty empty' place end end' : ℕ) (old now new : Option (List ℕ))
    → ReadsBehind len buf room → n ≤ length room
    → HasFilled old now buf len empty place end → Consumes now new (fragment false (take n room))
    → (n ≡ 0 → empty < empty_max) → n < 2 ^ 31 → empty' ≡ empty + bool_byte (n == 0)
    → end' ≡ min (end + (4 + n)) last_count
    → HasFilled old new (read_behind len buf room) (len + n) empty' place end'
HasFilled-more buf room len n empty empty' place end end' old now new behind fits h taken few short counted passed =
    let front : length (take len buf) ≡ len = length-take-le len buf behind.within in
    let piece : length (take n room) ≡ n = length-take-le n room fits in
    let left = length-room len buf room behind in
    rw (length-read_behind len buf room behind, take-behind len (length buf - len) n buf room behind.within fits)
    (HasBegun-push (length buf) empty empty' place end end' old now new (take len buf) (take n room) h taken
    (omega (arith, behind.within)) (λ none. few (sym piece ∙ none)) (omega arith)
    (rw (← bool_byte-blank (take n room) n piece) counted) (omega arith))

-- the last fragment was read behind them
pub TakesRecord-last : (buf room : List ℕ) (len n empty place end end' : ℕ) (old now new : Option (List ℕ))
    → ReadsBehind len buf room → n ≤ length room
    → HasFilled old now buf len empty place end → Consumes now new (fragment true (take n room))
    → (n ≡ 0 → empty < empty_max) → n < 2 ^ 31 → end' ≡ min (end + (4 + n)) last_count
    → TakesRecord (length (read_behind len buf room)) (take (len + n) (read_behind len buf room)) old new place end'
TakesRecord-last buf room len n empty place end end' old now new behind fits h taken few short passed =
    let front : length (take len buf) ≡ len = length-take-le len buf behind.within in
    let piece : length (take n room) ≡ n = length-take-le n room fits in
    let left = length-room len buf room behind in
    rw (length-read_behind len buf room behind, take-behind len (length buf - len) n buf room behind.within fits)
    (TakesRecord-push (length buf) empty place end end' old now new (take len buf) (take n room) h taken
    (omega (arith, behind.within)) (λ none. few (sym piece ∙ none)) (omega arith) (omega arith))

-- no fragment was read behind them
pub HasCause-more : (buf room : List ℕ) (len empty place end before now after : ℕ) (old mid new : Option (List ℕ))
    (fault : RecordFault) → ReadsBehind len buf room
    → HasFilled old mid buf len empty place end → before ≤ now
    → HasNoFragment (begun_record (length room) empty place) mid new now after fault
    → HasCause (record_start (length (read_behind len buf room)) place old) new before after fault
HasCause-more buf room len empty place end before now after old mid new fault behind h rose cause =
    let front : length (take len buf) ≡ len = length-take-le len buf behind.within in
    let left = length-room len buf room behind in
    rw (length-read_behind len buf room behind)
    (HasCause-behind (length buf) (length room) empty place end before now after old mid new
    (take len buf) fault h (omega (arith, behind.within)) rose cause)

-- input ended behind them
pub HasCause-end : (buf room : List ℕ) (len empty place end : ℕ) (old now new : Option (List ℕ))
    → ReadsBehind len buf room
    → HasFilled old now buf len empty place end → 0 < len + empty → IsEmpty now new
    → HasCause (record_start (length (read_behind len buf room)) place old) new 0 0 (Torn place)
HasCause-end buf room len empty place end old now new behind h some none =
    let front : length (take len buf) ≡ len = length-take-le len buf behind.within in
    rw (length-read_behind len buf room behind)
    (torn_between (length buf) empty place end old now new (take len buf) h (omega arith) none)
