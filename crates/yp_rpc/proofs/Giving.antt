-- Lemmas on a record that is given piece by piece.
use Rattle.std.proofs.Common.{◌≡◌, ℕ, ◌+◌, ◌-◌, ◌^◌, ◌<◌, ◌≤◌, Bool, true, false, ◌==◌, List, [], ◌∷◌, ◌++◌, Option}
use Rattle.std.proofs.Common.{Some, length, min, replicate, refl, sym, ap, ◌∙◌, subst, arith, inl, inr, append_assoc}
use Rattle.std.proofs.lemmas.List.{length-append, append-nil, length-replicate}
use Rattle.std.proofs.lemmas.List.Elements.{All-nil, All-push, All-pop}
use Rattle.std.proofs.KnownBytes.{Consumes-trans, Consumes-kept}
use Rattle.std.specs.Io.KnownBytes.{Consumes, Keeps, IsAtEnd}
use mir.Val.{bool_byte}
use Rattle.yp_io.specs.Counts.{HasRisen, last_count}
use Rattle.yp_rpc.specs.declared.record.RecordFault.{RecordFault}
use Rattle.yp_rpc.specs.declared.record.RecordFault.TheVariants.{Torn, TooLong, ReadFault}
use Rattle.yp_rpc.specs.Records.{empty_max, IsShort, head, fragment, begun, joined, AreWithin, IsPart, IsEmpty}
use Rattle.yp_rpc.specs.Records.{TakesRecord, record_start}
use Rattle.yp_rpc.specs.inside.Records.{begun_record, HasNoFragment}
use Rattle.yp_rpc.specs.Pieces.{Part}
use Rattle.yp_rpc.specs.inside.Pieces.{IsInFragment, HasGiven, HasNoPiece}
use Rattle.yp_rpc.proofs.CutPieces.{blank, blank_is, empties-append, length-joined_push}
use Rattle.yp_rpc.proofs.Fragments.{HasBegun, HasCause-behind, torn_between, IsBegun-part, AreWithin-push}
use Rattle.yp_rpc.proofs.Fragments.{length-fragment, begun-push, joined-push, bool_byte-blank}

-- a list without a length
pub nil_is : (xs : List ℕ) → length xs ≡ 0 → xs ≡ []
nil_is [] none = refl
nil_is (x ∷ xs) none = absurd (omega arith)

-- the heads name what was given and what is left
pub named_given : (limit : ℕ) (front : List ℕ) (start now : Option (List ℕ)) (part : Part)
    → HasGiven limit front start now part → part.named ≡ length front + part.left
named_given limit front start now part (inl new) =
    omega (arith, ap (λ (p : Part). p.named) new.0, ap (λ (p : Part). p.left) new.0, ap length new.1)
named_given limit front start now part (inr h) =
    omega (
      arith,
      h.named,
      h.left,
      ap length h.given,
      length-append
          (joined h.pieces) h.body,
      length-append h.body h.rest,
      length-joined_push h.pieces (h.body ++ h.rest),
    )

none_within : (limit : ℕ) → AreWithin limit []
none_within limit = record { len = omega arith; empty = omega arith; short = All-nil IsShort }

-- whole fragments, of which none is the last
pub whole_begun : (limit place : ℕ) (front : List ℕ) (start now : Option (List ℕ)) (part : Part) → part.left ≡ 0
    → part.last ≡ false → HasGiven limit front start now part
    → HasBegun limit start now front part.empty place (min (place + part.passed) last_count)
whole_begun limit place front start now part none more (inl new) = record {
  pieces = [];
  taken = new.2;
  filled = sym new.1;
  within = none_within limit;
  counted = sym (ap (λ (p : Part). p.empty) new.0);
  passed = omega (arith, ap (λ (p : Part). p.passed) new.0);
}
whole_begun limit place front start now part none more (inr h) =
    let nothing : h.rest ≡ [] = nil_is h.rest (omega (arith, h.left)) in
    let whole : h.body ++ h.rest ≡ h.body = ap (λ (xs : List ℕ). h.body ++ xs) nothing ∙ append-nil h.body in
    let pieces = h.pieces ++ h.body ∷ [] in
    record {
      pieces = pieces;
      taken = rw (begun-push h.pieces h.body) (rw (more, whole) at h.taken);
      filled = joined-push h.pieces h.body ∙ sym h.given;
      within = rw whole at h.within;
      counted = sym (rw whole at h.empty);
      passed = let p = rw whole at h.passed in omega (arith, p);
    }

-- the last fragment is whole
pub taken_whole : (limit place : ℕ) (front : List ℕ) (start now : Option (List ℕ)) (part : Part) → part.left ≡ 0
    → part.last ≡ true → HasGiven limit front start now part
    → TakesRecord limit front start now place (min (place + part.passed) last_count)
taken_whole limit place front start now part none last (inl new) =
    absurd (let e : false ≡ true = sym (ap (λ (p : Part). p.last) new.0) ∙ last in cc)
taken_whole limit place front start now part none last (inr h) =
    let nothing : h.rest ≡ [] = nil_is h.rest (omega (arith, h.left)) in
    let whole : h.body ++ h.rest ≡ h.body = ap (λ (xs : List ℕ). h.body ++ xs) nothing ∙ append-nil h.body in
    let size : length (begun h.pieces ++ fragment true h.body) ≡ length (begun (h.pieces ++ h.body ∷ [])) =
    omega (
      arith,
      ap length (begun-push h.pieces h.body),
      length-append (begun h.pieces)
          (fragment true h.body),
      length-append (begun h.pieces)
          (fragment false h.body),
      length-fragment true h.body,
      length-fragment false h.body,
    ) in
    record {
      bytes = begun h.pieces ++ fragment true h.body;
      fragments = record {
        pieces = h.pieces;
        last = h.body;
        whole = h.given;
        spelled = refl;
        within = rw whole at h.within;
      };
      taken = rw (last, whole) at h.taken;
      counted = let p = rw whole at h.passed in omega (arith, p, size);
    }

-- behind whole fragments the head of another was read
pub head_given : (limit : ℕ) (front : List ℕ) (start mid new : Option (List ℕ)) (part after : Part) (last : Bool)
    (len : ℕ) → part.left ≡ 0 → part.last ≡ false → HasGiven limit front start mid part
    → Consumes mid new (head last len) → len < 2 ^ 31 → part.named + len ≤ limit → (len ≡ 0 → part.empty < empty_max)
    → after.named ≡ part.named + len → after.empty ≡ part.empty + bool_byte (len == 0) → after.left ≡ len
    → after.last ≡ last → after.passed ≡ min (part.passed + (4 + len)) last_count
    → HasGiven limit front start new after
head_given limit front start mid new part after last len none more given taken short fits few named empty left is_last
    passed =
    let h = whole_begun limit 0 front start mid part none more given in
    let rest = replicate len 0 in
    let size : length rest ≡ len = length-replicate len 0 in
    let so_far : length (joined h.pieces) ≡ length front = ap length h.filled in
    let all : part.named ≡ length front + part.left = named_given limit front start mid part given in
    inr (record {
      pieces = h.pieces;
      body = [];
      rest = rest;
      taken = rw (is_last, size) (Consumes-trans start mid new _ _ h.taken taken);
      given = sym (append-nil (joined h.pieces) ∙ h.filled);
      within = AreWithin-push limit h.pieces rest h.within (omega arith) (omega arith)
          (λ e. omega (arith, few (sym size ∙ e), h.counted));
      left = left ∙ sym size;
      named = omega (arith, length-joined_push h.pieces rest);
      empty = omega (arith, empty, empties-append h.pieces (rest ∷ []), h.counted, bool_byte-blank rest len size);
      passed = omega (
        arith,
        h.passed,
        ap length (begun-push h.pieces rest),
        length-append (begun h.pieces)
            (fragment false rest),
        length-fragment false rest,
      );
    })

-- the heads so far name no more than the limit
pub named_within : (limit : ℕ) (front : List ℕ) (start now : Option (List ℕ)) (part : Part)
    → HasGiven limit front start now part → part.named ≤ limit
named_within limit front start now part (inl new) = omega (arith, ap (λ (p : Part). p.named) new.0)
named_within limit front start now part (inr h) = omega (arith, h.named, h.within.len)

-- the pieces before the last one are within the limit, and a head can name the last
front_within : (limit : ℕ) (pieces : List (List ℕ)) (piece : List ℕ) → AreWithin limit (pieces ++ piece ∷ [])
    → AreWithin limit pieces × IsShort piece
front_within limit pieces piece h =
    let short = All-pop IsShort (pieces ++ piece ∷ []) pieces (Some piece) refl h.short in (
      record {
        len = omega (arith, h.len, length-joined_push pieces piece);
        empty =
            omega (arith, h.empty, empties-append pieces (piece ∷ []));
        short = short.0;
      },
      short.1,
    )

same_blank : (piece other : List ℕ) → length piece ≡ length other → blank piece ≡ blank other
same_blank piece other same =
    elim (blank_is piece) [
      | inl a ↦ elim (blank_is other) [ inl b ↦ a.1 ∙ sym b.1 | inr b ↦ absurd (omega arith) ]
      | inr a ↦ elim (blank_is other) [ inl b ↦ absurd (omega arith) | inr b ↦ a.1 ∙ sym b.1 ]
    ]

-- another last piece of the same length
same_within : (limit : ℕ) (pieces : List (List ℕ)) (piece other : List ℕ) → length piece ≡ length other
    → AreWithin limit (pieces ++ piece ∷ []) → AreWithin limit (pieces ++ other ∷ [])
same_within limit pieces piece other same h =
    let parts = front_within limit pieces piece h in
    let short : length piece < 2 ^ 31 = parts.1 in
    record {
      len = omega (arith, h.len, length-joined_push pieces piece, length-joined_push pieces other);
      empty = omega (
        arith,
        h.empty,
        empties-append pieces (piece ∷ []),
        empties-append pieces
            (other ∷ []),
        same_blank piece other same,
      );
      short = All-push IsShort pieces other parts.0.short (omega arith);
    }

-- bytes of the fragment were read
pub more_given : (limit n : ℕ) (front got : List ℕ) (start mid new : Option (List ℕ)) (part after : Part)
    → HasGiven limit front start mid part → 0 < part.left → n ≤ part.left → length got ≡ n
    → Consumes mid new got → after ≡ record part { left = part.left - n }
    → HasGiven limit (front ++ got) start new after
more_given limit n front got start mid new part after (inl h) some few size taken is =
    absurd (omega (arith, ap (λ (p : Part). p.left) h.0))
more_given limit n front got start mid new part after (inr h) some few size taken is =
    let rest = replicate (length h.rest - n) 0 in
    let piece = h.body ++ h.rest in
    let other = (h.body ++ got) ++ rest in
    let left : length rest ≡ length h.rest - n = length-replicate (length h.rest - n) 0 in
    let same : length piece ≡ length other =
    omega (
      arith,
      h.left,
      length-append h.body h.rest,
      length-append
          (h.body ++ got) rest,
      length-append h.body got,
    ) in
    let spelled =
    append_assoc (begun h.pieces) (head part.last (length piece) ++ h.body) got
    ∙ ap (λ (bytes : List ℕ). begun h.pieces ++ bytes) (append_assoc (head part.last (length piece)) h.body got)
    ∙ ap (λ (len : ℕ). begun h.pieces ++ (head part.last len ++ (h.body ++ got))) same in
    let is_last : after.last ≡ part.last = ap (λ (p : Part). p.last) is in
    let size-piece = ap length (begun-push h.pieces piece) in
    let size-other = ap length (begun-push h.pieces other) in
    inr (record {
      pieces = h.pieces;
      body = h.body ++ got;
      rest = rest;
      taken = rw is_last (subst (Consumes start new) spelled (Consumes-trans start mid new _ _ h.taken taken));
      given = ap (λ (bytes : List ℕ). bytes ++ got) h.given ∙ append_assoc (joined h.pieces) h.body got;
      within = same_within limit h.pieces piece other same h.within;
      left = omega (arith, h.left, ap (λ (p : Part). p.left) is);
      named = omega (
        arith,
        h.named,
        ap
            (λ (p : Part). p.named) is,
        length-joined_push h.pieces piece,
        length-joined_push h.pieces other,
      );
      empty = omega (
        arith,
        h.empty,
        ap (λ (p : Part). p.empty) is,
        empties-append h.pieces
            (piece ∷ []),
        empties-append h.pieces (other ∷ []),
        same_blank piece other same,
      );
      passed = omega (
        arith,
        h.passed,
        ap (λ (p : Part). p.passed) is,
        size-piece,
        size-other,
        length-append
            (begun h.pieces) (fragment false piece),
        length-append (begun h.pieces)
            (fragment false other),
        length-fragment false piece,
        length-fragment false other,
      );
    })

-- why there is no head behind whole fragments, or one that names too much
pub no_head : (limit place before now after : ℕ) (front : List ℕ) (start mid new : Option (List ℕ)) (part : Part)
    (fault : RecordFault) → part.left ≡ 0 → part.last ≡ false → HasGiven limit front start mid part
    → before ≤ now → HasNoFragment (begun_record (limit - part.named) part.empty place) mid new now after fault
    → HasNoPiece (record_start limit place start) new before after fault
no_head limit place before now after front start mid new part fault none more given rose cause =
    let begun = whole_begun limit place front start mid part none more given in
    let within : part.named ≤ limit = named_within limit front start mid part given in
    inl (HasCause-behind limit
    (limit - part.named) part.empty place _ before now after start mid new front fault begun
    (omega (arith, named_given limit front start mid part given)) rose cause)

-- input ended behind whole fragments, or before the record
pub ended_before_head : (limit place before now : ℕ) (front : List ℕ) (start mid new : Option (List ℕ)) (part : Part)
    → part.left ≡ 0 → part.last ≡ false → HasGiven limit front start mid part
    → IsEmpty mid new → HasNoPiece (record_start limit place start) new before now (Torn place)
ended_before_head limit place before now front start mid new part none more (inl h) empty =
    inr (refl, (Consumes-trans start mid new [] [] h.2 empty.0, empty.1))
ended_before_head limit place before now front start mid new part none more (inr h) empty =
    let some : 0 < length front + part.empty = elim (blank_is (h.body ++ h.rest)) [
      | inl a ↦ omega (arith, a.1, h.empty, empties-append h.pieces ((h.body ++ h.rest) ∷ []))
      | inr a ↦ omega (
        arith,
        a.0,
        h.left,
        length-append h.body h.rest,
        ap length h.given,
        length-append
            (joined h.pieces) h.body,
      )
    ] in
    inl (torn_between limit part.empty place _ start mid new front
    (whole_begun limit place front start mid part none more (inr h)) some empty)

-- what was read of a record that is in a fragment is a part of it
in_part : (limit : ℕ) (front : List ℕ) (start now : Option (List ℕ)) (part : Part) → 0 < part.left
    → (h : IsInFragment limit front start now part)
    → IsPart limit h.pieces (head part.last (length (h.body ++ h.rest)) ++ h.body)
in_part limit front start now part some h =
    let parts = front_within limit h.pieces (h.body ++ h.rest) h.within in
    inr (
      part.last,
      length (h.body ++ h.rest),
      h.body,
      refl,
      omega
          (arith, h.left, length-append h.body h.rest),
      parts.1,
      omega
          (arith, h.within.len, length-joined_push h.pieces (h.body ++ h.rest)),
    )

-- input ended in a fragment
pub ended_in_fragment : (limit place before now : ℕ) (front : List ℕ) (start mid new : Option (List ℕ)) (part : Part)
    → 0 < part.left → HasGiven limit front start mid part
    → Consumes mid new [] → IsAtEnd new → HasNoPiece (record_start limit place start) new before now (Torn place)
ended_in_fragment limit place before now front start mid new part some (inl h) taken end =
    absurd (omega (arith, ap (λ (p : Part). p.left) h.0))
ended_in_fragment limit place before now front start mid new part some (inr h) taken end =
    let tail = head part.last (length (h.body ++ h.rest)) ++ h.body in
    let bytes = begun h.pieces ++ tail in
    let size = length-append (begun h.pieces) tail in
    let size-tail = length-append (head part.last (length (h.body ++ h.rest))) h.body in
    inl (
      refl,
      bytes,
      record {
        pieces = h.pieces;
        tail = tail;
        begins = refl;
        some = λ none. absurd (omega (arith, size, size-tail, ap length none));
        within = (front_within limit h.pieces (h.body ++ h.rest) h.within).0;
        part = in_part limit front start mid part some h;
      },
      subst (Consumes start new) (append-nil bytes) (Consumes-trans start mid new bytes [] h.taken taken),
      end,
    )

-- the source failed in a fragment
pub failed_in_fragment : (limit place before now : ℕ) (front : List ℕ) (start mid new : Option (List ℕ)) (part : Part)
    → 0 < part.left → HasGiven limit front start mid part
    → Keeps mid new → HasRisen before now → HasNoPiece (record_start limit place start) new before now ReadFault
failed_in_fragment limit place before now front start mid new part some (inl h) kept risen =
    absurd (omega (arith, ap (λ (p : Part). p.left) h.0))
failed_in_fragment limit place before now front start mid new part some (inr h) kept risen =
    let tail = head part.last (length (h.body ++ h.rest)) ++ h.body in
    inl (
      risen,
      begun h.pieces ++ tail,
      Consumes-kept start mid new _ h.taken kept,
      IsBegun-part limit h.pieces tail (front_within limit h.pieces (h.body ++ h.rest) h.within).0
          (in_part limit front start mid part some h),
    )

-- the same of a count of faults that was lower before
pub cause_earlier : (limit place before mid now : ℕ) (start new : Option (List ℕ)) (fault : RecordFault)
    → before ≤ mid → HasNoPiece (record_start limit place start) new mid now fault
    → HasNoPiece (record_start limit place start) new before now fault
cause_earlier limit place before mid now start new (Torn at) rose cause = cause
cause_earlier limit place before mid now start new (TooLong at) rose cause = cause
cause_earlier limit place before mid now start new ReadFault rose (inl cause) =
    inl (omega (arith, cause.0), cause.1, cause.2, cause.3)
cause_earlier limit place before mid now start new ReadFault rose (inr cause) = inr cause
