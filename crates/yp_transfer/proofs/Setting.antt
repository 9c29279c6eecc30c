-- A call that is put into its buffer.
use Rattle.std.proofs.Common.{◌≡◌, ℕ, ◌+◌, List, [], ◌∷◌, ◌++◌, length, take, drop, refl, ap, ◌∙◌, arith}
use Rattle.std.proofs.lemmas.List.{length-append, length-take, take_at, append-nil}
use Rattle.yp_xdr.specs.inside.Writing.{written}
use Rattle.yp_xdr.specs.inside.Laws.{WrittenIsJoined}

take_none : (xs : List ℕ) → take 0 xs ≡ []
take_none [] = refl
take_none (x ∷ xs) = refl

drop_all : (xs : List ℕ) (n : ℕ) → n ≡ length xs → drop n xs ≡ []
drop_all [] n is = rw is refl
drop_all (x ∷ xs) n is = rw is (drop_all xs (length xs) refl)

-- two pieces that fill a buffer are its bytes
pub fills : WrittenIsJoined → (old half new head more : List ℕ) (at : ℕ) → half ≡ written old 0 head
    → at ≡ 0 + length head → new ≡ written half at more → length old ≡ length head + length more → new ≡ head ++ more
fills law old half new head more at first place second full =
    let all = head ++ more in
    let joined : new ≡ written old 0 all =
    second ∙ ap (λ (buf : List ℕ). written buf at more) first
    ∙ ap (λ (n : ℕ). written (written old 0 head) n more) place ∙ law old 0 head more (omega arith) in
    let none : drop (0 + length all) old ≡ [] =
    drop_all old (0 + length all) (omega (arith, full, length-append head more)) in
    joined
    ∙ ap (λ (front : List ℕ). (front ++ all) ++ drop (0 + length all) old) (take_none old)
    ∙ ap (λ (rest : List ℕ). all ++ rest) none ∙ append-nil all

-- what is written at the front of a buffer
pub front_set : (old new bytes : List ℕ) (len : ℕ) → new ≡ written old 0 bytes → len ≡ 0 + length bytes
    → take len new ≡ bytes
front_set old new bytes len there place =
    ap (take len) there
    ∙ take_at (take 0 old ++ bytes) (drop (0 + length bytes) old) len
    (omega (arith, place, length-append (take 0 old) bytes, length-take 0 old))
    ∙ ap (λ (front : List ℕ). front ++ bytes) (take_none old)
