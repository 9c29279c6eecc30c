-- A list begins with one list of pieces in fragments, up to what no further fragment follows.
use Rattle.std.proofs.Common.{◌≡◌, ℕ, ◌+◌, ◌<◌, ◌≤◌, All, false, ◌⊎◌, inl, inr, List, [], ◌∷◌, ◌++◌, length, refl}
use Rattle.std.proofs.Common.{sym, ap, ◌∙◌, arith, append_assoc}
use Rattle.std.specs.Prelude.{◌==◌, cond}
use Rattle.std.proofs.lemmas.Bool.Decides.{eqb_tells}
use Rattle.std.proofs.lemmas.List.{length-append}
use Rattle.std.proofs.lemmas.List.Concat.{flat_map-append}
use Rattle.std.proofs.lemmas.List.Elements.{All-head, All-tail}
use Rattle.std.proofs.lemmas.List.Sums.{sum_by-cons, sum_by-append}
use Rattle.yp_rpc.specs.Records.{empty_max, IsShort, fragment, begun, joined, empties}
use Rattle.yp_rpc.proofs.CutHead.{fragment_one}

-- 1 for an empty piece, 0 for another
abbrev pub blank : List ℕ → ℕ
blank piece = empties (piece ∷ [])

-- the count of empty pieces, at the first piece
pub empties-cons : (piece : List ℕ) (pieces : List (List ℕ)) → empties (piece ∷ pieces) ≡ blank piece + empties pieces
empties-cons piece pieces = sum_by-cons (λ p. cond (length p == 0) 1 0) piece pieces ∙ omega arith

-- and over two lists
pub empties-append : (pieces others : List (List ℕ)) → empties (pieces ++ others) ≡ empties pieces + empties others
empties-append pieces others = sum_by-append (λ p. cond (length p == 0) 1 0) pieces others

-- the length of joined pieces, at the first piece
pub length-joined : (piece : List ℕ) (pieces : List (List ℕ))
    → length (joined (piece ∷ pieces)) ≡ length piece + length (joined pieces)
length-joined piece pieces = length-append piece (joined pieces)

-- and over two lists
pub length-joined-append : (pieces others : List (List ℕ))
    → length (joined (pieces ++ others)) ≡ length (joined pieces) + length (joined others)
length-joined-append pieces others =
    ap length (flat_map-append (λ piece. piece) pieces others) ∙ length-append (joined pieces) (joined others)

-- with one more piece
pub length-joined_push : (pieces : List (List ℕ)) (piece : List ℕ)
    → length (joined (pieces ++ piece ∷ [])) ≡ length (joined pieces) + length piece
length-joined_push pieces piece = length-joined-append pieces (piece ∷ []) ∙ omega (arith, length-append piece [])

-- a piece is empty or not
pub blank_is : (piece : List ℕ) → ((length piece ≡ 0) × (blank piece ≡ 1)) ⊎ ((0 < length piece) × (blank piece ≡ 0))
blank_is piece = elim (eqb_tells (length piece) 0)
    [ inl w ↦ inl (w.1, rw w.0 refl) | inr w ↦ inr (omega (arith, w.1), rw w.0 refl) ]

-- there is no further fragment, behind so many bytes in fragments of which so many are empty
abbrev pub NoMore : ℕ → ℕ → ℕ → List ℕ → Type 0
NoMore limit used empty tail =
    (piece more : List ℕ) → tail ≡ fragment false piece ++ more → IsShort piece → used + length piece ≤ limit
    → empty + blank piece ≤ empty_max → ⊥

-- the same, where the counts are written otherwise
pub NoMore-at : (limit used used' empty empty' : ℕ) (tail : List ℕ) → used ≡ used' → empty ≡ empty'
    → NoMore limit used empty tail → NoMore limit used' empty' tail
NoMore-at limit used used' empty empty' tail bytes blanks none =
    λ piece more begins short fits room. none piece more begins short (omega arith) (omega arith)

-- two lists of pieces that begin one list are one, if no further fragment follows either
pub pieces_one : (limit used empty : ℕ) (pieces others : List (List ℕ)) (tail tail' : List ℕ) → All IsShort pieces
    → All IsShort others
    → used + length (joined pieces) ≤ limit → empty + empties pieces ≤ empty_max
    → used + length (joined others) ≤ limit → empty + empties others ≤ empty_max
    → NoMore limit (used + length (joined pieces)) (empty + empties pieces) tail
    → NoMore limit (used + length (joined others)) (empty + empties others) tail'
    → begun pieces ++ tail ≡ begun others ++ tail' → (pieces ≡ others) × (tail ≡ tail')
pieces_one limit used empty [] [] tail tail' short short' fits room fits' room' none none' same = (refl, same)
pieces_one limit used empty [] (other ∷ others) tail tail' short short' fits room fits' room' none none' same =
    absurd (none other (begun others ++ tail') (same ∙ append_assoc (fragment false other) (begun others) tail')
    (All-head IsShort other others short')
    (omega (arith, length-joined other others)) (omega (arith, empties-cons other others)))
pieces_one limit used empty (piece ∷ pieces) [] tail tail' short short' fits room fits' room' none none' same =
    absurd (none' piece (begun pieces ++ tail) (sym same ∙ append_assoc (fragment false piece) (begun pieces) tail)
    (All-head IsShort piece pieces short)
    (omega (arith, length-joined piece pieces)) (omega (arith, empties-cons piece pieces)))
pieces_one limit used empty (piece ∷ pieces)
    (other ∷ others) tail tail' short short' fits room fits' room' none none' same =
    let len = length-joined piece pieces in
    let len' = length-joined other others in
    let count = empties-cons piece pieces in
    let count' = empties-cons other others in
    let first = fragment_one false false piece other (begun pieces ++ tail) (begun others ++ tail')
    (All-head IsShort piece pieces short) (All-head IsShort other others short')
    (sym (append_assoc (fragment false piece) (begun pieces) tail) ∙ same
    ∙ append_assoc (fragment false other) (begun others) tail') in
    let bytes : length piece ≡ length other = ap length first.1 in
    let blanks : blank piece ≡ blank other = ap blank first.1 in
    let rest = pieces_one limit (used + length piece) (empty + blank piece) pieces others tail tail'
    (All-tail IsShort piece pieces short) (All-tail IsShort other others short') (omega arith) (omega arith)
    (omega arith) (omega arith)
    (NoMore-at limit _ _ _ _ tail (omega arith) (omega arith) none)
    (NoMore-at limit _ _ _ _ tail' (omega arith) (omega arith) none') first.2 in
    (cc (first.1, rest.0), rest.1)
