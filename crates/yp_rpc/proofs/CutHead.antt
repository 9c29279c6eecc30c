-- A head has one mark and one length, and a fragment that begins a list is one.
use Rattle.std.proofs.Common.{◌≡◌, ℕ, ◌+◌, ◌^◌, ◌<◌, Bool, true, false, if◌then◌else◌, List, ◌++◌, length, take, drop}
use Rattle.std.proofs.Common.{refl, sym, ap, ◌∙◌, arith}
use Rattle.std.specs.Int.{w32, from_be_bytes}
use Rattle.std.proofs.lemmas.Nat.{from_be_bytes-to_be_bytes_4}
use Rattle.std.proofs.lemmas.List.{take_at, drop_at}
use Rattle.yp_xdr.specs.Spelling.{word}
use Rattle.yp_rpc.specs.Records.{head, fragment}

-- the number that a head spells
abbrev pub marked : Bool → ℕ → ℕ
marked last len = len + (if last then 2147483648 else 0)

-- it is a number of 32 bits
pub marked_fits : (last : Bool) (len : ℕ) → len < 2 ^ 31 → marked last len < 2 ^ 32
marked_fits true len short = omega arith
marked_fits false len short = omega arith

-- it has one mark and one length
pub marked_one : (last other : Bool) (n k : ℕ) → n < 2 ^ 31 → k < 2 ^ 31 → marked last n ≡ marked other k
    → (last ≡ other) × (n ≡ k)
marked_one true true n k short short' same = (refl, omega arith)
marked_one true false n k short short' same = absurd (omega arith)
marked_one false true n k short short' same = absurd (omega arith)
marked_one false false n k short short' same = (refl, omega arith)

-- a word spells one number
pub word_one : (n k : ℕ) → n < 2 ^ 32 → k < 2 ^ 32 → word n ≡ word k → n ≡ k
word_one n k fits fits' same =
    sym (from_be_bytes-to_be_bytes_4 n fits) ∙ ap (from_be_bytes w32) same ∙ from_be_bytes-to_be_bytes_4 k fits'

-- a list begins with one head
pub head_one : (last other : Bool) (n k : ℕ) (body body' : List ℕ) → n < 2 ^ 31 → k < 2 ^ 31
    → head last n ++ body ≡ head other k ++ body' → (last ≡ other) × (n ≡ k) × (body ≡ body')
head_one last other n k body body' short short' same =
    let words : head last n ≡ head other k = ap (take 4) same in
    let rest : body ≡ body' = ap (drop 4) same in
    let marks = marked_one last other n k short short'
    (word_one (marked last n) (marked other k) (marked_fits last n short) (marked_fits other k short') words) in
    (marks.0, marks.1, rest)

-- a list begins with one piece of a length
pub piece_one : (piece other more more' : List ℕ) → length piece ≡ length other → piece ++ more ≡ other ++ more'
    → (piece ≡ other) × (more ≡ more')
piece_one piece other more more' len same = (
  sym (take_at piece more (length piece) refl) ∙ ap (take (length piece)) same
      ∙ take_at other more' (length piece) (sym len),
  sym (drop_at piece more (length piece) refl) ∙ ap (drop (length piece)) same
      ∙ drop_at other more' (length piece) (sym len),
)

-- a list begins with one fragment
pub fragment_one : (last other : Bool) (piece piece' more more' : List ℕ) → length piece < 2 ^ 31
    → length piece' < 2 ^ 31
    → fragment last piece ++ more ≡ fragment other piece' ++ more' → (last ≡ other) × (piece ≡ piece') × (more ≡ more')
fragment_one last other piece piece' more more' short short' same =
    let heads = head_one last other (length piece) (length piece') (piece ++ more)
    (piece' ++ more') short short' same in
    let pieces = piece_one piece piece' more more' heads.1 heads.2 in
    (heads.0, pieces.0, pieces.1)
