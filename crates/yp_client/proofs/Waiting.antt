-- What stands in the buffer of a reply that is read piece by piece, and what its record has given.
use Rattle.std.proofs.Common.{◌≡◌, ℕ, ◌+◌, ◌-◌, ◌<◌, ◌≤◌, Bool, true, false, cond, ◌==◌, List, [], ◌∷◌, ◌++◌, length}
use Rattle.std.proofs.Common.{take, drop, Option, Result, Ok, Err, refl, sym, ap, ◌∙◌, subst, append_assoc, arith}
use Rattle.std.proofs.Common.{inl, inr}
use Rattle.std.specs.Prelude.{slice_range, IfErr}
use Rattle.std.proofs.KnownBytes.{Consumes-nil}
use Rattle.std.proofs.lemmas.Bool.Decides.{eqb_tells}
use Rattle.std.proofs.lemmas.List.{append-nil, length-append, length-take-le, length-drop, take-append-le}
use Rattle.std.proofs.lemmas.List.{drop-append-le, drop-drop, drop-take}
use Rattle.std.proofs.lemmas.List.Concat.{flat_map-append}
use Rattle.std.proofs.Math.Seq.{take-append-add}
use borrow.Rule.Slice.PartMut.{put_mid, post_of}
use Rattle.yp_rpc.specs.declared.record.RecordFault.{RecordFault}
use Rattle.yp_rpc.specs.declared.record.RecordFault.TheVariants.{Torn, TooLong, ReadFault}
use Rattle.yp_rpc.specs.Records.{joined, record_start}
use Rattle.yp_rpc.specs.Pieces.{ReaderState, not_begun}
use Rattle.yp_rpc.specs.inside.Pieces.{HasGiven, GivesPiece, HasNoPiece}
use Rattle.yp_client.specs.declared.all.AllReply.{AllReply}
use Rattle.yp_client.specs.Limits.{all_max}
use Rattle.yp_client.specs.inside.Windows.{waiting, StandsIn, RecordProgress, progress, HasRead, HasReadUpTo, GivesMore}
use Rattle.yp_client.specs.inside.Windows.{IsUnderway}
use Rattle.yp_client.specs.inside.Windows.{StaysWhole}

-- ---- the bytes in the buffer

-- how many there are
pub length-waiting : (start end : ℕ) (buf : List ℕ) → start ≤ end → end ≤ length buf
    → length (slice_range buf start end) ≡ end - start
length-waiting start end buf order fits =
    length-take-le (end - start) (drop start buf) (omega (arith, length-drop start buf))

-- without the first of them
pub waiting-passed : (start end count : ℕ) (buf : List ℕ) → start + count ≤ end
    → slice_range buf (start + count) end ≡ drop count (slice_range buf start end)
waiting-passed start end count buf within =
    let left : end - start ≡ count + (end - (start + count)) = omega arith in
    rw (left, drop-take count (end - (start + count)) (drop start buf), drop-drop count start buf) refl

-- bytes that were read behind them
pub waiting-read : (start end k count : ℕ) (buf room : List ℕ) → start ≤ end → end ≤ length buf → count ≤ length room
    → slice_range (put_mid end k buf room) start (end + count) ≡ slice_range buf start end ++ take count room
waiting-read start end k count buf room order fits few =
    let n = end - start in
    let front : length (take end buf) ≡ end = length-take-le end buf fits in
    let size : length (take n (drop start buf)) ≡ n =
    length-take-le n (drop start buf) (omega (arith, length-drop start buf)) in
    let end_is : end ≡ start + n = omega arith in
    let here : drop start (take end buf) ≡ take n (drop start buf) =
    ap (λ (e : ℕ). drop start (take e buf)) end_is ∙ drop-take start n buf in
    let more : end + count - start ≡ length (take n (drop start buf)) + count = omega (arith, size) in
    rw (
      drop-append-le start (take end buf) (room ++ post_of end k buf)
          (omega (arith, front)),
      here,
      more,
      take-append-add (take n (drop start buf))
          (room ++ post_of end k buf) count,
      take-append-le count room (post_of end k buf) few,
    ) refl

is_nil : (xs : List ℕ) → length xs ≡ 0 → xs ≡ []
is_nil [] none = refl
is_nil (x ∷ xs) none = absurd (omega arith)

-- ---- what the record gave

pub gives_nothing : (now : RecordProgress) → GivesMore [] now now
gives_nothing now = λ front start place h. subst (λ (bytes : List ℕ). HasReadUpTo bytes start place now)
    (sym (append-nil front)) h

pub gives_then : (more others : List ℕ) (was mid now : RecordProgress) → GivesMore more was mid → GivesMore others mid now
    → GivesMore (more ++ others) was now
gives_then more others was mid now one other = λ front start place h.
    subst (λ (bytes : List ℕ). HasReadUpTo bytes start place now) (append_assoc front more others)
    (other (front ++ more) start place (one front start place h))

-- by one piece, which is empty at the record's end
gives_by : (front piece : List ℕ) (start input : Option (List ℕ)) (old new : ReaderState) (count : ℕ) (b : Bool)
    (place : ℕ) → (count == 0) ≡ b → length piece ≡ count → old.place ≡ place
    → GivesPiece (record_start all_max old.place start) front piece input new
    → HasRead (front ++ piece) start place input new b
gives_by front piece start input old new count true place e len at g =
    let zero : count ≡ 0 = elim
    (eqb_tells count 0) [ inl w ↦ w.1 | inr w ↦ absurd (let c : true ≡ false = sym e ∙ w.0 in cc) ] in
    let none : length piece ≡ 0 = omega arith in
    let nothing : piece ≡ [] = is_nil piece none in
    let ended = g.end none in
    let same : front ++ piece ≡ front = ap (λ (xs : List ℕ). front ++ xs) nothing ∙ append-nil front in
    (rw (same, ← at) ended.0, ended.1)
gives_by front piece start input old new count false place e len at g =
    let nonzero : count ≡ 0 → ⊥ =
    elim (eqb_tells count 0) [ inl w ↦ absurd (let c : true ≡ false = sym w.0 ∙ e in cc) | inr w ↦ w.1 ] in
    let some : 0 < length piece = omega (arith, len, nonzero) in
    let given = g.more some in
    (given.0, given.1 ∙ at)

pub gives_piece : (piece : List ℕ) (input input' : Option (List ℕ)) (old new : ReaderState) (count : ℕ)
    → length piece ≡ count
    → ((front : List ℕ) (start : Option (List ℕ)) → HasGiven all_max front start input old.part
    → GivesPiece (record_start all_max old.place start) front piece input' new)
    → GivesMore piece (progress input old false) (progress input' new (count == 0))
gives_piece piece input input' old new count len given =
    λ front start place h. gives_by front piece start input' old new count (count == 0) place refl len h.1
    (given front start h.0)

-- ---- how much it may give

joined_push : (pieces : List (List ℕ)) (piece : List ℕ)
    → length (joined (pieces ++ piece ∷ [])) ≡ length (joined pieces) + length piece
joined_push pieces piece =
    omega (
      arith,
      ap length (flat_map-append (λ (p : List ℕ). p) pieces (piece ∷ [])),
      length-append (joined pieces)
          (joined (piece ∷ [])),
      length-append piece [],
    )

given_within : (front : List ℕ) (start now : Option (List ℕ)) (reader : ReaderState)
    → HasGiven all_max front start now reader.part → length front ≤ all_max
given_within front start now reader (inl h) = omega (arith, ap length h.1)
given_within front start now reader (inr h) =
    omega (
      arith,
      ap length h.given,
      length-append (joined h.pieces) h.body,
      joined_push h.pieces
          (h.body ++ h.rest),
      length-append h.body h.rest,
      h.within.len,
    )

read_within : (front : List ℕ) (start : Option (List ℕ)) (place : ℕ) (input : Option (List ℕ)) (reader : ReaderState)
    (whole : Bool) → HasRead front start place input reader whole → length front ≤ all_max
read_within front start place input reader false h = given_within front start input reader h.0
read_within front start place input reader true h =
    let f = h.0.fragments in
    omega (arith, ap length f.whole, length-append (joined f.pieces) f.last, joined_push f.pieces f.last, f.within.len)

pub underway_within : (count : ℕ) (now : RecordProgress) → IsUnderway count now → count ≤ all_max
underway_within count now h =
    omega (arith, h.counted, read_within h.front h.start h.place now.input now.reader now.whole h.reached)

pub underway_more : (count count' : ℕ) (more : List ℕ) (was now : RecordProgress) → GivesMore more was now
    → count' ≡ count + length more → IsUnderway count was → IsUnderway count' now
underway_more count count' more was now given size h = record {
  front = h.front ++ more;
  start = h.start;
  place = h.place;
  reached = given h.front h.start h.place h.reached;
  counted = omega (arith, size, h.counted, length-append h.front more);
}

-- a record that begins
pub begun_here : (input : Option (List ℕ)) (reader : ReaderState) → reader.part ≡ not_begun
    → HasReadUpTo [] input reader.place (progress input reader false)
begun_here input reader new = (inl (new, refl, Consumes-nil input), refl)

-- ---- why it gives no more

pub no_piece_earlier : (place before mid now : ℕ) (start new : Option (List ℕ)) (fault : RecordFault) → before ≤ mid
    → HasNoPiece (record_start all_max place start) new mid now fault
    → HasNoPiece (record_start all_max place start) new before now fault
no_piece_earlier place before mid now start new (Torn at) rose cause = cause
no_piece_earlier place before mid now start new (TooLong at) rose cause = cause
no_piece_earlier place before mid now start new ReadFault rose (inl cause) =
    inl (omega (arith, cause.0), cause.1, cause.2, cause.3)
no_piece_earlier place before mid now start new ReadFault rose (inr cause) = inr cause

-- the same of an error
pub err_earlier : {T : Type 0} (place before mid now : ℕ) (start new : Option (List ℕ))
    (result : Result T RecordFault) → before ≤ mid
    → IfErr result (HasNoPiece (record_start all_max place start) new mid now)
    → IfErr result (HasNoPiece (record_start all_max place start) new before now)
err_earlier place before mid now start new (Ok x) rose cause = tt
err_earlier place before mid now start new (Err fault) rose cause =
    no_piece_earlier place before mid now start new fault rose cause

no_piece_at : (place place' before mid now : ℕ) (start new : Option (List ℕ)) (fault : RecordFault) → place ≡ place'
    → before ≤ mid → HasNoPiece (record_start all_max place start) new mid now fault
    → HasNoPiece (record_start all_max place' start) new before now fault
no_piece_at place place' before mid now start new fault same rose cause =
    no_piece_earlier place' before mid now start new fault rose
    (subst (λ (p : ℕ). HasNoPiece (record_start all_max p start) new mid now fault) same cause)

-- a piece that doesn't come, of a record that isn't at its end
pub no_piece : (front : List ℕ) (start : Option (List ℕ)) (place before mid now : ℕ) (input new : Option (List ℕ))
    (old : ReaderState) (whole : Bool) (fault : RecordFault) → whole ≡ false → before ≤ mid
    → HasReadUpTo front start place (progress input old whole)
    → ((front : List ℕ) (start : Option (List ℕ)) → HasGiven all_max front start input old.part
    → HasNoPiece (record_start all_max old.place start) new mid now fault)
    → HasNoPiece (record_start all_max place start) new before now fault
no_piece front start place before mid now input new old true fault going rose reached cause = absurd cc
no_piece front start place before mid now input new old false fault going rose reached cause =
    no_piece_at old.place place before mid now start new fault reached.1 rose (cause front start reached.0)

-- ---- reading on

-- More of the record was read into the buffer.
pub record ReadsOn (old new : AllReply) (buf buf' : List ℕ) (was now : RecordProgress) : Type 0 where
  pub more : List ℕ
  pub stays : StaysWhole more old.whole new.whole
  pub given : GivesMore more was now
  pub waits : waiting new buf' ≡ waiting old buf ++ more
  pub stands : StandsIn new buf'
  pub same : new ≡ record old { end = new.end; whole = new.whole }

pub reads_nothing : (reply : AllReply) (buf : List ℕ) (now : RecordProgress) → StandsIn reply buf
    → ReadsOn reply reply buf buf now now
reads_nothing reply buf now stands =
    record {
      more = [];
      stays = λ whole. (refl, whole);
      given = gives_nothing now;
      waits = sym
          (append-nil (waiting reply buf));
      stands = stands;
      same = refl;
    }

put_within : (a k n : ℕ) (xs ys : List ℕ) → a ≤ length xs → n ≤ length ys → a + n ≤ length (put_mid a k xs ys)
put_within a k n xs ys within fits =
    omega (
      arith,
      length-append (take a xs) (ys ++ post_of a k xs),
      length-append ys
          (post_of a k xs),
      length-take-le a xs within,
    )

-- by one piece more
pub reads_more : (old mid new : AllReply) (k count : ℕ) (buf buf' room : List ℕ) (was : RecordProgress)
    (input input' : Option (List ℕ)) (reader reader' : ReaderState)
    → ReadsOn old mid buf buf' was (progress input reader mid.whole) → mid.whole ≡ false → count ≤ length room
    → ((front : List ℕ) (start : Option (List ℕ)) → HasGiven all_max front start input reader.part
    → GivesPiece (record_start all_max reader.place start) front (take count room) input' reader')
    → new ≡ record mid { end = mid.end + count; whole = (count == 0) }
    → ReadsOn old new buf (put_mid mid.end k buf' room) was (progress input' reader' new.whole)
reads_more old mid new k count buf buf' room was input input' reader reader' so_far going few piece is =
    let got = take count room in
    let order : mid.start ≤ mid.end = so_far.stands.order in
    let within : mid.end ≤ length buf' = so_far.stands.fits in
    let len : length got ≡ count = length-take-le count room few in
    let gives : GivesMore got (progress input reader mid.whole) (progress input' reader' (count == 0)) =
    rw going (gives_piece got input input' reader reader' count len piece) in
    rw is (record {
      more = so_far.more ++ got;
      stays = λ whole. absurd (let h : false ≡ true = sym going ∙ (so_far.stays whole).1 in cc);
      given = gives_then so_far.more got was (progress input reader mid.whole)
          (progress input' reader' (count == 0)) so_far.given gives;
      waits = waiting-read mid.start mid.end k count buf' room order within few
          ∙ ap (λ (xs : List ℕ). xs ++ got) so_far.waits ∙ append_assoc (waiting old buf) so_far.more got;
      stands = record { order = omega arith; fits = put_within mid.end k count buf' room within few };
      same = ap (λ (r : AllReply). record r { end = mid.end + count; whole = (count == 0) }) so_far.same;
    })

-- ---- skipping the rest

-- More of the record was read, up to a place, and none where it was at its end.
pub record Skips (was now : RecordProgress) (at : ℕ) : Type 0 where
  pub more : List ℕ
  pub given : GivesMore more was now
  pub ended : StaysWhole more was.whole now.whole
  pub underway : IsUnderway at now

pub skips_nothing : (now : RecordProgress) (at : ℕ) → IsUnderway at now → Skips now now at
skips_nothing now at underway =
    record { more = []; given = gives_nothing now; ended = λ whole. (refl, whole); underway = underway }

-- one piece more
pub skips_more : (was : RecordProgress) (at count : ℕ) (room : List ℕ) (input input' : Option (List ℕ))
    (reader reader' : ReaderState) (whole : Bool)
    → Skips was (progress input reader whole) at → whole ≡ false → count ≤ length room
    → ((front : List ℕ) (start : Option (List ℕ)) → HasGiven all_max front start input reader.part
    → GivesPiece (record_start all_max reader.place start) front (take count room) input' reader')
    → Skips was (progress input' reader' (count == 0)) (at + count)
skips_more was at count room input input' reader reader' true so_far going few piece = absurd cc
skips_more was at count room input input' reader reader' false so_far going few piece =
    let got = take count room in
    let len : length got ≡ count = length-take-le count room few in
    let gives = gives_piece got input input' reader reader' count len piece in
    record {
      more = so_far.more ++ got;
      given = gives_then so_far.more got was (progress input reader false)
          (progress input' reader' (count == 0)) so_far.given gives;
      ended = λ whole. absurd (let h : false ≡ true = (so_far.ended whole).1 in cc);
      underway = underway_more at (at + count) got (progress input reader false)
          (progress input' reader' (count == 0)) gives (omega arith) so_far.underway;
    }

falls_by : (count at : ℕ) (b : Bool) → (count == 0) ≡ b → at + count ≤ all_max
    → all_max - (at + count) + cond b 0 1 < all_max - at + 1
falls_by count at true e within = omega arith
falls_by count at false e within =
    let nonzero : count ≡ 0 → ⊥ =
    elim (eqb_tells count 0) [ inl w ↦ absurd (let c : true ≡ false = sym w.0 ∙ e in cc) | inr w ↦ w.1 ] in
    omega (arith, nonzero)

-- what is left of the record falls
pub skip_falls : (was : RecordProgress) (at count : ℕ) (input : Option (List ℕ)) (reader : ReaderState) (whole : Bool)
    → whole ≡ false → Skips was (progress input reader (count == 0)) (at + count)
    → all_max - (at + count) + cond (count == 0) 0 1 < all_max - at + cond whole 0 1
skip_falls was at count input reader true going h = absurd cc
skip_falls was at count input reader false going h =
    falls_by count at (count == 0) refl (underway_within (at + count) (progress input reader (count == 0)) h.underway)

-- the same count, written otherwise
pub underway_same : (count count' : ℕ) (now : RecordProgress) → count' ≡ count → IsUnderway count now → IsUnderway count' now
underway_same count count' now same h =
    record { front = h.front; start = h.start; place = h.place; reached = h.reached; counted = h.counted ∙ sym same }

-- a record of which all was read
pub whole_reached : (front : List ℕ) (start : Option (List ℕ)) (place : ℕ) (input : Option (List ℕ)) (reader : ReaderState)
    (whole : Bool) → whole ≡ true → HasReadUpTo front start place (progress input reader whole)
    → HasReadUpTo front start place (progress input reader true)
whole_reached front start place input reader true is h = h
whole_reached front start place input reader false is h = absurd cc
