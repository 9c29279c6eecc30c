-- What a list of bytes begins with: a whole record, a torn one or one that is too long.
use Rattle.std.proofs.Common.{◌≡◌, ℕ, ◌+◌, ◌-◌, ◌^◌, ◌<◌, ◌≤◌, Bool, true, false, ◌⊎◌, inl, inr, List, [], ◌∷◌, ◌++◌}
use Rattle.std.proofs.Common.{length, take, drop, get_or, refl, sym, ap, ◌∙◌, subst, arith}
use Rattle.std.specs.Int.{w32, from_be_bytes}
use Rattle.std.proofs.lemmas.Bool.{cases_lt, cases_eq}
use Rattle.std.proofs.lemmas.Nat.{be_bytes_4}
use Rattle.std.proofs.lemmas.List.{length-take-le, get_or-append-add, get_or_append_left, get_or_past, take-append-drop}
use Rattle.std.proofs.lemmas.List.Elements.{All-push}
use Rattle.yp_xdr.specs.Spelling.{word}
use Rattle.yp_xdr.specs.inside.Reading.{IsBytes}
use Rattle.yp_rpc.specs.Records.{empty_max, IsShort, head, fragment, joined, empties, AreWithin, IsPart}
use Rattle.yp_rpc.proofs.CutPieces.{blank, blank_is, empties-append, length-joined_push}

-- what stands behind the front of bytes is bytes
pub IsBytes-behind : (front more bytes : List ℕ) → bytes ≡ front ++ more → IsBytes bytes → IsBytes more
IsBytes-behind front more bytes begins fits = λ i.
    omega (
      arith,
      fits (length front + i),
      ap
          (λ b. get_or b (length front + i) 0) begins,
      get_or-append-add front more i 0,
    )

-- a number of 32 bits has a mark and a length
mark_of : (n : ℕ) → n < 2 ^ 32 → (last : Bool) × (len : ℕ) × (len < 2 ^ 31) × (word n ≡ head last len)
mark_of n fits = elim (cases_lt n (2 ^ 31)) [
  | inl low ↦ (false, n, low, let same : n ≡ n + 0 = omega arith in ap word same)
  | inr high ↦ (true, n - 2 ^ 31, omega arith, let same : n ≡ n - 2 ^ 31 + 2147483648 = omega arith in ap word same)
]

-- four bytes spell a number
word_of : (a b c d : ℕ) → IsBytes (a ∷ b ∷ c ∷ d ∷ []) → (n : ℕ) × (n < 2 ^ 32) × (word n ≡ a ∷ b ∷ c ∷ d ∷ [])
word_of a b c d fits =
    let bytes = a ∷ b ∷ c ∷ d ∷ [] in (
      from_be_bytes w32 bytes,
      omega (arith, fits 0, fits 1, fits 2, fits 3),
      be_bytes_4 bytes
          (from_be_bytes w32 bytes) refl fits refl,
    )

-- the front of bytes is bytes
IsBytes-front : (front more : List ℕ) → IsBytes (front ++ more) → IsBytes front
IsBytes-front front more fits = λ i. elim (cases_lt i (length front)) [
  | inl within ↦ omega (arith, fits i, get_or_append_left front more 0 i within)
  | inr past ↦ omega (arith, get_or_past front i 0 past)
]

-- bytes that begin with a head
pub record Opens (bytes : List ℕ) : Type 0 where
  pub last : Bool
  pub len : ℕ
  pub body : List ℕ
  pub short : len < 2 ^ 31
  pub begins : bytes ≡ head last len ++ body

-- four bytes are a head
pub head_of : (bytes : List ℕ) → IsBytes bytes → 4 ≤ length bytes → Opens bytes
head_of (a ∷ b ∷ c ∷ d ∷ body) fits long =
    let number = word_of a b c d (IsBytes-front (a ∷ b ∷ c ∷ d ∷ []) body fits) in
    let mark = mark_of number.0 number.1 in
    record {
      last = mark.0;
      len = mark.1;
      body = body;
      short = mark.2;
      begins =
          ap (λ front. front ++ body) (sym number.2 ∙ mark.3);
    }
head_of _ fits long = absurd (omega arith)

-- a fragment that begins a list, and its piece is within the limit behind other pieces
pub record IsNext (limit : ℕ) (pieces : List (List ℕ)) (last : Bool) (tail : List ℕ) : Type 0 where
  pub piece : List ℕ
  pub more : List ℕ
  pub begins : tail ≡ fragment last piece ++ more
  pub within : AreWithin limit (pieces ++ piece ∷ [])

-- behind these pieces there is no room for one of so many bytes
abbrev pub IsPast : ℕ → List (List ℕ) → ℕ → Type 0
IsPast limit pieces len = (limit < length (joined pieces) + len) ⊎ ((len ≡ 0) × (empties pieces ≡ empty_max))

-- one more piece is within the limit, or is one empty piece too many
room_of : (limit : ℕ) (pieces : List (List ℕ)) (piece : List ℕ) → AreWithin limit pieces → IsShort piece
    → length (joined pieces) + length piece ≤ limit
    → IsPast limit pieces (length piece) ⊎ AreWithin limit (pieces ++ piece ∷ [])
room_of limit pieces piece within short fits =
    let more : empties pieces + blank piece ≤ empty_max → AreWithin limit (pieces ++ piece ∷ []) = λ room. record {
      len = omega (arith, length-joined_push pieces piece);
      empty = omega (arith, empties-append pieces (piece ∷ []));
      short = All-push IsShort pieces piece within.short short;
    } in
    elim (blank_is piece) [
      | inl none ↦ elim (cases_eq (empties pieces) empty_max)
          [ inl full ↦ inl (inr (none.0, full)) | inr room ↦ inr (more (omega (arith, none.1, within.empty, room))) ]
      | inr some ↦ inr (more (omega (arith, some.1, within.empty)))
    ]

-- where there are as many bytes as the head names, they are the next fragment
whole_next : (limit : ℕ) (pieces : List (List ℕ)) (tail : List ℕ) (opens : Opens tail) → AreWithin limit pieces
    → length (joined pieces) + opens.len ≤ limit → opens.len ≤ length opens.body
    → IsPast limit pieces opens.len ⊎ IsNext limit pieces opens.last tail
whole_next limit pieces tail opens within fits enough =
    let piece = take opens.len opens.body in
    let more = drop opens.len opens.body in
    let size : length piece ≡ opens.len = length-take-le opens.len opens.body enough in
    let begins : tail ≡ fragment opens.last piece ++ more =
    opens.begins ∙ ap (λ len. head opens.last len ++ opens.body) (sym size)
    ∙ ap (λ body. head opens.last (length piece) ++ body) (sym (take-append-drop opens.len opens.body)) in
    elim (room_of limit pieces piece within (omega (arith, opens.short)) (omega arith)) [
      | inl past ↦ inl (subst (IsPast limit pieces) size past)
      | inr room ↦ inr (record { piece = piece; more = more; begins = begins; within = room })
    ]

-- what its head names is past the limit, or partly there, or the next fragment
pub next_of : (limit : ℕ) (pieces : List (List ℕ)) (tail : List ℕ) (opens : Opens tail) → AreWithin limit pieces
    → (IsPast limit pieces opens.len ⊎ IsNext limit pieces opens.last tail) ⊎ IsPart limit pieces tail
next_of limit pieces tail opens within =
    elim (cases_lt limit (length (joined pieces) + opens.len)) [
      | inl over ↦ inl (inl (inl over))
      | inr fits ↦ elim (cases_lt (length opens.body) opens.len) [
        | inl less ↦ inr (inr (opens.last, opens.len, opens.body, opens.begins, less, opens.short, fits))
        | inr enough ↦ inl (whole_next limit pieces tail opens within fits enough)
      ]
    ]
