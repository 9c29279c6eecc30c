-- Padded content that is read is what was written, and what was written is read again.
use Rattle.std.proofs.Common.{◌≡◌, ℕ, suc, zero, ◌+◌, ◌≤◌, Bool, true, false, cond, eqb, ltb, not, List, [], ◌∷◌}
use Rattle.std.proofs.Common.{◌++◌, length, take, drop, replicate, Option, Some, None, Ok, refl, sym, ap, subst, ◌∙◌}
use Rattle.std.proofs.Common.{append_assoc, arith}
use Rattle.std.specs.List.{position_or_len}
use Rattle.std.proofs.lemmas.Bool.{ltb-false, le-ltb, ne_eqb}
use Rattle.std.proofs.lemmas.List.{take_at, drop_at, take-append-drop, length-append, length-take, length-drop}
use Rattle.std.proofs.lemmas.List.{length-replicate, drop-drop}
use Rattle.std.proofs.lemmas.List.Folds.{prefix_len-replicate}
use Rattle.yp_xdr.specs.declared.fault.XdrFault.TheVariants.{Short}
use Rattle.yp_xdr.specs.Spelling.{padding_len, padding}
use Rattle.yp_xdr.specs.Reading.{Remaining, past, first_nonzero, padded, content_at}
use Rattle.yp_xdr.proofs.Words.{guard_ok, ok_is}

-- the test that first_nonzero makes of each byte
abbrev is_nonzero : ℕ → Bool
is_nonzero byte = not (eqb byte 0)

-- among zeros there is no byte that isn't zero
first_nonzero-replicate : (n : ℕ) → first_nonzero (replicate n 0) ≡ None
first_nonzero-replicate n =
    let all : position_or_len is_nonzero (replicate n 0) ≡ n =
    prefix_len-replicate (λ byte. not (is_nonzero byte)) n 0 refl in
    let zeros : List ℕ = replicate n 0 in
    let len : length zeros ≡ n = length-replicate n 0 in
    let none : ltb (position_or_len is_nonzero zeros) (length zeros) ≡ false = le-ltb _ _ (omega (arith, all, len)) in
    rw none refl

-- bytes that pass as far as their length are zeros
zeros_from_len : (bytes : List ℕ) → length bytes ≤ position_or_len is_nonzero bytes → bytes ≡ replicate (length bytes) 0
zeros_from_len [] le = refl
zeros_from_len (zero ∷ bytes) le = ap (λ (xs : List ℕ). 0 ∷ xs) (zeros_from_len bytes (omega arith))
zeros_from_len (suc byte ∷ bytes) le =
    let nonzero : eqb (suc byte) 0 ≡ false = ne_eqb (suc byte) 0 (omega arith) in
    let none : position_or_len is_nonzero (suc byte ∷ bytes) ≡ 0 = rw nonzero refl in
    absurd (omega (arith, none))

-- a test that gave no place
none_from : (b : Bool) (n : ℕ) → cond b (Some n) None ≡ None → b ≡ false
none_from true n e = absurd cc
none_from false n e = refl

-- bytes among which none isn't zero are zeros
zeros_from_none : (bytes : List ℕ) → first_nonzero bytes ≡ None → bytes ≡ replicate (length bytes) 0
zeros_from_none bytes e =
    zeros_from_len bytes (ltb-false _ _
    (none_from (ltb (position_or_len is_nonzero bytes) (length bytes)) (position_or_len is_nonzero bytes) e))

-- where padded content was not refused, no byte of the padding isn't zero
padded_ok : (n : ℕ) (left : Remaining) (place : Option ℕ) (y : List ℕ × Remaining) → padded n left place ≡ Ok y
    → (place ≡ None) × ((take n left.bytes, past (n + padding_len n) left) ≡ y)
padded_ok n left None y e = (refl, ok_is _ y _ _ refl refl e)
padded_ok n left (Some place) y e = absurd cc

-- what reading content took from the front
pub record ContentTaken (n : ℕ) (old : Remaining) (content : List ℕ) (new : Remaining) : Type 0 where
  pub len : length content ≡ n
  pub parts : old.bytes ≡ content ++ padding n ++ new.bytes
  pub place : new.at ≡ old.at + (n + padding_len n)

-- content that is read is what is at the front, padded
pub content_takes : (start n : ℕ) (old new : Remaining) (content : List ℕ) → content_at start n old ≡ Ok (content, new)
    → ContentTaken n old content new
unfolding content_at
content_takes start n old new content e =
    let pad = padding_len n in
    let zeros = take pad (drop n old.bytes) in
    let g = guard_ok (ltb (length old.bytes) (n + pad)) (Short start) (padded n old (first_nonzero zeros))
    (content, new) e in
    let long : n + pad ≤ length old.bytes = ltb-false _ _ g.0 in
    let p = padded_ok n old (first_nonzero zeros) (content, new) g.1 in
    let len : length (take n old.bytes) ≡ n = omega (arith, length-take n old.bytes) in
    let pad_len : length zeros ≡ pad = omega (arith, length-take pad (drop n old.bytes), length-drop n old.bytes) in
    let padding_there : zeros ≡ padding n = zeros_from_none zeros p.0 ∙ ap (λ (k : ℕ). replicate k 0) pad_len in
    let behind : drop pad (drop n old.bytes) ≡ drop (n + pad) old.bytes = drop-drop pad n old.bytes in
    let parts : old.bytes ≡ take n old.bytes ++ padding n ++ drop (n + pad) old.bytes =
    sym (take-append-drop n old.bytes)
    ∙ ap (λ (xs : List ℕ). take n old.bytes ++ xs)
    (sym (take-append-drop pad (drop n old.bytes)) ∙ rw (padding_there, behind) refl)
    ∙ sym (append_assoc (take n old.bytes) (padding n) (drop (n + pad) old.bytes)) in
    subst (λ (y : List ℕ × Remaining). ContentTaken n old y.0 y.1) p.1 (record { len = len; parts = parts; place = refl })

-- content that was written is read again
pub content_again : (start at : ℕ) (content rest : List ℕ)
    → content_at start (length content) (record { at = at; bytes = content ++ padding (length content) ++ rest })
    ≡ Ok (content, record { at = at + (length content + padding_len (length content)); bytes = rest })
unfolding content_at
content_again start at content rest =
    let n = length content in
    let pad = padding_len n in
    let bytes = content ++ padding n ++ rest in
    let pad_len : length (padding n) ≡ pad = length-replicate pad 0 in
    let split : bytes ≡ content ++ (padding n ++ rest) = append_assoc content (padding n) rest in
    let len : length (content ++ padding n) ≡ n + pad = omega (arith, length-append content (padding n)) in
    let long : ltb (length bytes) (n + pad) ≡ false =
    le-ltb _ _ (omega (arith, length-append (content ++ padding n) rest)) in
    let front : take n bytes ≡ content = rw split (take_at content (padding n ++ rest) n refl) in
    let behind : drop n bytes ≡ padding n ++ rest = rw split (drop_at content (padding n ++ rest) n refl) in
    let zeros : take pad (drop n bytes) ≡ padding n = rw behind (take_at (padding n) rest pad pad_len) in
    let left : drop (n + pad) bytes ≡ rest = drop_at (content ++ padding n) rest (n + pad) len in
    let none : first_nonzero (take pad (drop n bytes)) ≡ None = ap first_nonzero zeros ∙ first_nonzero-replicate pad in
    rw (long, none, front, left) refl
