-- Each stream of bytes has a cut.
use Rattle.std.proofs.Common.{◌≡◌, ◌≢◌, ℕ, zero, suc, ◌<◌, ◌≤◌, Bool, true, false, ◌⊎◌, inl, inr, List, [], ◌∷◌, ◌++◌}
use Rattle.std.proofs.Common.{length, refl, sym, ap, ◌∙◌, arith, append_assoc}
use Rattle.std.proofs.lemmas.Bool.{cases_lt}
use Rattle.std.proofs.lemmas.List.{flat_map_more, length-append, nil_from_length}
use Rattle.std.proofs.lemmas.List.Elements.{All-nil}
use Rattle.yp_xdr.specs.inside.Reading.{IsBytes}
use Rattle.yp_rpc.specs.Records.{IsShort, head, fragment, begun, joined, AreWithin, Fragments, IsPart, IsTorn, IsLong}
use Rattle.yp_rpc.specs.Records.{IsRest, Cut}
use Rattle.yp_rpc.proofs.CutNext.{IsBytes-behind, head_of, Opens, IsNext, IsPast, next_of}

-- bytes that begin with a whole record
record IsWhole (limit : ℕ) (stream : List ℕ) : Type 0 where
  message : List ℕ
  bytes : List ℕ
  more : List ℕ
  fragments : Fragments limit message bytes
  begins : stream ≡ bytes ++ more

-- a record whose last fragment comes next is whole
IsNext-whole : (limit : ℕ) (stream : List ℕ) (pieces : List (List ℕ)) (tail : List ℕ) → stream ≡ begun pieces ++ tail
    → IsNext limit pieces true tail → IsWhole limit stream
IsNext-whole limit stream pieces tail begins next = record {
  message = joined pieces ++ next.piece;
  bytes = begun pieces ++ fragment true next.piece;
  more = next.more;
  fragments = record { pieces = pieces; last = next.piece; whole = refl; spelled = refl; within = next.within };
  begins = begins ∙ ap (λ bytes. begun pieces ++ bytes) next.begins
      ∙ sym (append_assoc (begun pieces) (fragment true next.piece) next.more);
}

-- a record whose next head names too much is too long
IsPast-long : (limit : ℕ) (stream : List ℕ) (pieces : List (List ℕ)) (tail : List ℕ) (opens : Opens tail)
    → stream ≡ begun pieces ++ tail → AreWithin limit pieces → IsPast limit pieces opens.len → IsLong limit stream
IsPast-long limit stream pieces tail opens begins within past = (
  begun pieces ++ head opens.last opens.len,
  opens.body,
  record {
    pieces = pieces;
    last = opens.last;
    len = opens.len;
    begins = refl;
    within = within;
    short =
        opens.short;
    past = past;
  },
  begins ∙ ap (λ bytes. begun pieces ++ bytes) opens.begins
      ∙ sym (append_assoc (begun pieces) (head opens.last opens.len) opens.body),
)

-- one more fragment has begun
begun_push : (stream : List ℕ) (pieces : List (List ℕ)) (tail piece more : List ℕ) → stream ≡ begun pieces ++ tail
    → tail ≡ fragment false piece ++ more → stream ≡ begun (pieces ++ piece ∷ []) ++ more
begun_push stream pieces tail piece more begins next =
    begins ∙ ap (λ bytes. begun pieces ++ bytes) next ∙ sym (append_assoc (begun pieces) (fragment false piece) more)
    ∙ ap (λ front. front ++ more) (flat_map_more (fragment false) [] pieces piece)

-- what a list that isn't empty begins with
abbrev Found : ℕ → List ℕ → Type 0
Found limit stream = IsTorn limit stream ⊎ IsLong limit stream ⊎ IsWhole limit stream

-- a record that ends here is torn
IsPart-torn : (limit : ℕ) (stream : List ℕ) (pieces : List (List ℕ)) (tail : List ℕ) → AreWithin limit pieces
    → stream ≢ [] → stream ≡ begun pieces ++ tail → IsPart limit pieces tail → IsTorn limit stream
IsPart-torn limit stream pieces tail within some begins part =
    record { pieces = pieces; tail = tail; begins = begins; some = some; within = within; part = part }

-- the next fragment is the last, or others follow
found_next : (limit : ℕ) (stream : List ℕ) (pieces : List (List ℕ)) (last : Bool) (tail : List ℕ)
    → stream ≡ begun pieces ++ tail → IsNext limit pieces last tail
    → (IsNext limit pieces false tail → Found limit stream) → Found limit stream
found_next limit stream pieces true tail begins next others =
    inr (inr (IsNext-whole limit stream pieces tail begins next))
found_next limit stream pieces false tail begins next others = others next

-- a stream that begins with pieces begins with a torn record, one that is too long or a whole one; each turn takes a
-- fragment
found : (turns limit : ℕ) (stream : List ℕ) (pieces : List (List ℕ)) (tail : List ℕ) → length tail ≤ turns
    → IsBytes tail → AreWithin limit pieces → stream ≢ [] → stream ≡ begun pieces ++ tail → Found limit stream
found zero limit stream pieces tail enough fits within some begins =
    inl (IsPart-torn limit stream pieces tail within some begins (inl (omega arith)))
found (suc turns) limit stream pieces tail enough fits within some begins =
    elim (cases_lt (length tail) 4) [
      | inl few ↦ inl (IsPart-torn limit stream pieces tail within some begins (inl few))
      | inr four ↦
          let opens = head_of tail fits four in
          elim (next_of limit pieces tail opens within) [
            | inl here ↦ elim here [
              | inl past ↦ inr (inl (IsPast-long limit stream pieces tail opens begins within past))
              | inr next ↦ found_next limit stream pieces opens.last tail begins next (λ other.
                  found turns limit stream (pieces ++ other.piece ∷ []) other.more
                  (omega (arith, enough, ap length other.begins, length-append other.piece other.more))
                  (IsBytes-behind (fragment false other.piece) other.more tail other.begins fits) other.within some
                  (begun_push stream pieces tail other.piece other.more begins other.begins))
            ]
            | inr part ↦ inl (IsPart-torn limit stream pieces tail within some begins part)
          ]
    ]

-- a stream with no record left, or one whole record and a shorter stream
rest_or_whole : (limit : ℕ) (stream : List ℕ) → IsBytes stream → IsRest limit stream ⊎ IsWhole limit stream
rest_or_whole limit [] fits = inl (inl refl)
rest_or_whole limit (byte ∷ bytes) fits =
    elim (found (length (byte ∷ bytes)) limit (byte ∷ bytes) [] (byte ∷ bytes) (omega arith) fits
    (record { len = omega arith; empty = omega arith; short = All-nil IsShort }) (λ none. cc) refl) [
      | inl torn ↦ inl (inr (inl torn))
      | inr more ↦ elim more [ inl long ↦ inl (inr (inr long)) | inr whole ↦ inr whole ]
    ]

-- a whole record has bytes
IsWhole-shorter : (limit : ℕ) (stream : List ℕ) → (whole : IsWhole limit stream) → length whole.more < length stream
IsWhole-shorter limit stream whole =
    let spelled = whole.fragments in
    omega (
      arith,
      ap length whole.begins,
      length-append whole.bytes whole.more,
      ap length spelled.spelled,
      length-append (begun spelled.pieces) (fragment true spelled.last),
    )

-- a stream of at most turns bytes has a cut
cut_within : (turns limit : ℕ) (stream : List ℕ) → length stream ≤ turns → IsBytes stream
    → (messages : List (List ℕ)) × (rest : List ℕ) × Cut limit stream messages rest
cut_within zero limit stream enough fits = ([], stream, (refl, inl (nil_from_length stream (omega arith))))
cut_within (suc turns) limit stream enough fits =
    elim (rest_or_whole limit stream fits) [
      | inl none ↦ ([], stream, (refl, none))
      | inr whole ↦
          let others = cut_within turns limit whole.more (omega (arith, IsWhole-shorter limit stream whole))
          (IsBytes-behind whole.bytes whole.more stream whole.begins fits) in
          (whole.message ∷ others.0, others.1, (whole.bytes, whole.more, whole.fragments, whole.begins, others.2))
    ]

-- each stream of bytes has a cut
pub cut_exists : (limit : ℕ) (stream : List ℕ) → IsBytes stream
    → (messages : List (List ℕ)) × (rest : List ℕ) × Cut limit stream messages rest
cut_exists limit stream fits = cut_within (length stream) limit stream (omega arith) fits
