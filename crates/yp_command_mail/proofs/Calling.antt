-- A call that is put into a buffer, and the room that it takes.
use Rattle.std.proofs.Common.{◌≡◌, ℕ, ◌+◌, ◌<◌, List, [], ◌∷◌, ◌++◌, length, take, drop, refl, ap, ◌∙◌, arith}
use Rattle.std.proofs.lemmas.List.{length-append, length-replicate, length-take, take_at}
use Rattle.yp_xdr.specs.Spelling.{word, padding_len, padding, opaque, fixed}
use Rattle.yp_xdr.specs.inside.Writing.{written}
use Rattle.yp_xdr.specs.inside.Laws.{WrittenIsJoined}

-- bytes with their length and padding
pub opaque_short : (content : List ℕ) → length (opaque content) < length content + 8
unfolding opaque fixed
opaque_short content =
    let n = length content in
    let pad : length (padding n) ≡ padding_len n = length-replicate (padding_len n) 0 in
    omega (arith, length-append (word n) (content ++ padding n), length-append content (padding n))

take_none : (xs : List ℕ) → take 0 xs ≡ []
take_none [] = refl
take_none (x ∷ xs) = refl

-- what is written at the front of a buffer
pub front_set : (old new bytes : List ℕ) (len : ℕ) → new ≡ written old 0 bytes → len ≡ 0 + length bytes
    → take len new ≡ bytes
front_set old new bytes len there place =
    ap (take len) there
    ∙ take_at (take 0 old ++ bytes) (drop (0 + length bytes) old) len
    (omega (arith, place, length-append (take 0 old) bytes, length-take 0 old))
    ∙ ap (λ (front : List ℕ). front ++ bytes) (take_none old)

-- a head and arguments behind it, at the front of a buffer
pub call_set : WrittenIsJoined → (old half new head arguments : List ℕ) (at end : ℕ) → half ≡ written old 0 head
    → at ≡ 0 + length head → new ≡ written half at arguments → end ≡ at + length arguments
    → take end new ≡ head ++ arguments
call_set law old half new head arguments at end first place second finish =
    let all = head ++ arguments in
    let joined : new ≡ written old 0 all =
    second ∙ ap (λ (buf : List ℕ). written buf at arguments) first
    ∙ ap (λ (n : ℕ). written (written old 0 head) n arguments) place ∙ law old 0 head arguments (omega arith) in
    front_set old new all end joined (omega (arith, finish, place, length-append head arguments))
