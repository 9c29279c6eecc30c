-- A list that begins with a whole record, a torn one or one that is too long is of that kind alone.
use Rattle.std.proofs.Common.{◌≡◌, ◌≢◌, ℕ, ◌+◌, ◌^◌, ◌<◌, ◌≤◌, All, Bool, true, false, ◌⊎◌, inl, inr, List, [], ◌∷◌}
use Rattle.std.proofs.Common.{◌++◌, length, refl, sym, ap, ◌∙◌, arith, append_assoc}
use Rattle.std.proofs.lemmas.List.{length-append, take_at}
use Rattle.std.proofs.lemmas.List.Elements.{All-take, All-contains, Contains-push}
use Rattle.yp_rpc.specs.Records.{empty_max, IsShort, head, fragment, begun, joined, empties, AreWithin, Fragments}
use Rattle.yp_rpc.specs.Records.{IsPart, IsTorn, IsTooLong, IsLong}
use Rattle.yp_rpc.proofs.CutHead.{head_one, fragment_one}
use Rattle.yp_rpc.proofs.CutPieces.{blank, blank_is, empties-append, length-joined_push, NoMore, NoMore-at, pieces_one}

-- a list begins with these pieces in fragments, and no further fragment follows
record Stops (limit : ℕ) (bytes : List ℕ) (pieces : List (List ℕ)) (tail : List ℕ) : Type 0 where
  begins : bytes ≡ begun pieces ++ tail
  within : AreWithin limit pieces
  none : NoMore limit (length (joined pieces)) (empties pieces) tail

-- these pieces and what follows them are one
stops_one : (limit : ℕ) (bytes : List ℕ) (pieces others : List (List ℕ)) (tail tail' : List ℕ)
    → Stops limit bytes pieces tail → Stops limit bytes others tail' → (pieces ≡ others) × (tail ≡ tail')
stops_one limit bytes pieces others tail tail' one other =
    pieces_one limit 0 0 pieces others tail tail' one.within.short other.within.short (omega (arith, one.within.len))
    (omega (arith, one.within.empty)) (omega (arith, other.within.len)) (omega (arith, other.within.empty))
    (NoMore-at limit _ _ _ _ tail (omega arith) (omega arith) one.none)
    (NoMore-at limit _ _ _ _ tail' (omega arith) (omega arith) other.none) (sym one.begins ∙ other.begins)

-- a head is longer than part of one
four_or_more : (tail : List ℕ) (last : Bool) (len : ℕ) (body : List ℕ) → tail ≡ head last len ++ body → 4 ≤ length tail
four_or_more tail last len body begins = rw begins (omega arith)

-- a head of part of a fragment names more than there is, within the limit
part_head : (limit : ℕ) (pieces : List (List ℕ)) (tail : List ℕ) (last : Bool) (len : ℕ) (body : List ℕ)
    → IsPart limit pieces tail → tail ≡ head last len ++ body → len < 2 ^ 31
    → (length body < len) × (length (joined pieces) + len ≤ limit)
part_head limit pieces tail last len body (inl few) begins short =
    absurd (omega (arith, few, four_or_more tail last len body begins))
part_head limit pieces tail last len body (inr part) begins short =
    let same = head_one last part.0 len part.1 body part.2 short part.5 (sym begins ∙ part.3) in
    let bytes : length body ≡ length part.2 = ap length same.2 in
    (omega (arith, part.4, same.1, bytes), omega (arith, part.6, same.1))

-- so no fragment follows
part_none : (limit : ℕ) (pieces : List (List ℕ)) (tail : List ℕ) (last : Bool) (piece more : List ℕ)
    → IsPart limit pieces tail → length piece < 2 ^ 31 → tail ≡ fragment last piece ++ more → ⊥
part_none limit pieces tail last piece more part short begins =
    let less = part_head limit pieces tail last (length piece) (piece ++ more) part begins short in
    omega (arith, less.0, length-append piece more)

-- no fragment within the limit has a length that is too much
past_none : (limit used empty len : ℕ) (piece : List ℕ) → (limit < used + len) ⊎ ((len ≡ 0) × (empty ≡ empty_max))
    → len ≡ length piece → used + length piece ≤ limit → empty + blank piece ≤ empty_max → ⊥
past_none limit used empty len piece (inl over) same fits room = omega arith
past_none limit used empty len piece (inr over) same fits room =
    elim (blank_is piece) [
      | inl none ↦ omega (arith, over.0, over.1, none.0, none.1)
      | inr some ↦ omega
          (arith, over.0, some.0)
    ]

-- the last piece of a whole record is short
last_short : {limit : ℕ} {message bytes : List ℕ} (whole : Fragments limit message bytes) → IsShort whole.last
last_short whole = All-contains IsShort (whole.pieces ++ whole.last ∷ []) whole.last whole.within.short
    (Contains-push whole.pieces whole.last)

-- and so are those before it
All-front : (pieces : List (List ℕ)) (last : List ℕ) → All IsShort (pieces ++ last ∷ []) → All IsShort pieces
All-front pieces last short =
    rw (← take_at pieces (last ∷ []) (length pieces) refl)
    (All-take IsShort (length pieces) (pieces ++ last ∷ []) short)

-- a whole record stops at its last fragment
Fragments-stops : (limit : ℕ) (message bytes more : List ℕ) → (whole : Fragments limit message bytes)
    → Stops limit (bytes ++ more) whole.pieces (fragment true whole.last ++ more)
Fragments-stops limit message bytes more whole = record {
  begins = ap (λ front. front ++ more) whole.spelled
      ∙ append_assoc (begun whole.pieces) (fragment true whole.last) more;
  within = record {
    len = omega (arith, whole.within.len, length-joined_push whole.pieces whole.last);
    empty = omega (arith, whole.within.empty, empties-append whole.pieces (whole.last ∷ []));
    short = All-front whole.pieces whole.last whole.within.short;
  };
  none = λ piece behind begins short fits room.
      let same : true ≡ false =
      (fragment_one true false whole.last piece more behind (last_short whole) short begins).0 in cc;
}

-- a torn one stops at the part of a fragment
IsTorn-stops : (limit : ℕ) (rest : List ℕ) → (torn : IsTorn limit rest) → Stops limit rest torn.pieces torn.tail
IsTorn-stops limit rest torn = record {
  begins = torn.begins;
  within = torn.within;
  none = λ piece more begins short fits room. part_none limit torn.pieces torn.tail false piece more torn.part short
      begins;
}

-- one that is too long stops at the head that names too much
IsTooLong-stops : (limit : ℕ) (front more : List ℕ) → (long : IsTooLong limit front)
    → Stops limit (front ++ more) long.pieces (head long.last long.len ++ more)
IsTooLong-stops limit front more long = record {
  begins = ap (λ bytes. bytes ++ more) long.begins ∙ append_assoc (begun long.pieces) (head long.last long.len) more;
  within = long.within;
  none = λ piece behind begins short fits room.
      past_none limit (length (joined long.pieces)) (empties long.pieces) long.len piece long.past
      (head_one long.last false long.len (length piece) more (piece ++ behind) long.short short begins).1 fits room;
}

-- a list begins with one whole record
pub whole_one : (limit : ℕ) (message other bytes bytes' more more' : List ℕ) → Fragments limit message bytes
    → Fragments limit other bytes' → bytes ++ more ≡ bytes' ++ more'
    → (message ≡ other) × (more ≡ more')
whole_one limit message other bytes bytes' more more' one another same =
    let stops : (one.pieces ≡ another.pieces) × (fragment true one.last ++ more ≡ fragment true another.last ++ more') =
    stops_one limit (bytes ++ more) one.pieces another.pieces _ _ (Fragments-stops limit message bytes more one)
    (rw same (Fragments-stops limit other bytes' more' another)) in
    let ends = fragment_one true true one.last another.last more more' (last_short one) (last_short another) stops.1 in
    (cc (one.whole, another.whole, stops.0, ends.1), ends.2)

-- a list that begins with a whole record isn't torn
pub whole_is_not_torn : (limit : ℕ) (message bytes more : List ℕ) → Fragments limit message bytes
    → IsTorn limit (bytes ++ more) → ⊥
whole_is_not_torn limit message bytes more whole torn =
    let stops = stops_one limit (bytes ++ more) torn.pieces whole.pieces _ _ (IsTorn-stops limit _ torn)
    (Fragments-stops limit message bytes more whole) in
    part_none limit torn.pieces torn.tail true whole.last more torn.part (last_short whole) stops.1

-- nor is its first record too long
pub whole_is_not_long : (limit : ℕ) (message bytes more : List ℕ) → Fragments limit message bytes
    → IsLong limit (bytes ++ more) → ⊥
whole_is_not_long limit message bytes more whole (front, behind, long, begins) =
    let stops : (long.pieces ≡ whole.pieces) × (head long.last long.len ++ behind ≡ fragment true whole.last ++ more) =
    stops_one limit (bytes ++ more) long.pieces whole.pieces _ _ (rw begins (IsTooLong-stops limit front behind long))
    (Fragments-stops limit message bytes more whole) in
    let len : length (joined long.pieces) ≡ length (joined whole.pieces) =
    ap (λ pieces. length (joined pieces)) stops.0 in
    let empty : empties long.pieces ≡ empties whole.pieces = ap empties stops.0 in
    past_none limit (length (joined long.pieces)) (empties long.pieces) long.len whole.last long.past
    (head_one long.last true long.len (length whole.last) behind (whole.last ++ more) long.short
    (last_short whole) stops.1).1
    (omega (arith, whole.within.len, length-joined_push whole.pieces whole.last))
    (omega (arith, whole.within.empty, empties-append whole.pieces (whole.last ∷ [])))

-- a torn record isn't too long
pub torn_is_not_long : (limit : ℕ) (rest : List ℕ) → IsTorn limit rest → IsLong limit rest → ⊥
torn_is_not_long limit rest torn (front, behind, long, begins) =
    let stops : (torn.pieces ≡ long.pieces) × (torn.tail ≡ head long.last long.len ++ behind) =
    stops_one limit rest torn.pieces long.pieces _ _ (IsTorn-stops limit rest torn)
    (rw begins (IsTooLong-stops limit front behind long)) in
    let less = part_head limit torn.pieces torn.tail long.last long.len behind torn.part stops.1 long.short in
    let len : length (joined torn.pieces) ≡ length (joined long.pieces) =
    ap (λ pieces. length (joined pieces)) stops.0 in
    elim long.past [ inl over ↦ omega (arith, less.1, len) | inr over ↦ omega (arith, less.0, over.0) ]

-- a torn record has bytes
pub torn_is_some : (limit : ℕ) (rest : List ℕ) → IsTorn limit rest → rest ≢ []
torn_is_some limit rest torn = torn.some

-- and so has one that is too long
pub long_is_some : (limit : ℕ) (rest : List ℕ) → IsLong limit rest → rest ≢ []
long_is_some limit rest (front, behind, long, begins) none =
    omega (
      arith,
      ap length (sym begins ∙ none),
      length-append front behind,
      ap length long.begins,
      length-append
          (begun long.pieces) (head long.last long.len),
    )

-- and a whole one
pub whole_is_some : (limit : ℕ) (message bytes more : List ℕ) → Fragments limit message bytes → bytes ++ more ≢ []
whole_is_some limit message bytes more whole none =
    omega (
      arith,
      ap length none,
      length-append bytes more,
      ap length whole.spelled,
      length-append
          (begun whole.pieces) (fragment true whole.last),
    )
