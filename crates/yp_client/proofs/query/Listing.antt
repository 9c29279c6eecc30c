-- Texts of lists, item by item.
use Rattle.std.proofs.Common.{◌≡◌, ℕ, zero, suc, ◌+◌, List, [], ◌∷◌, ◌++◌, take, drop, slice_get, Some, refl, sym, ap}
use Rattle.std.proofs.Common.{◌∙◌, append_assoc, append-nil, add-one, arith}
use Rattle.std.specs.Prelude.{flat_map}
use Rattle.std.proofs.lemmas.Option.{slice_get_within}
use Rattle.std.proofs.lemmas.List.{take-append-drop}
use Rattle.std.proofs.lemmas.Grind.{flat_map-append}

take_none : {X : Type 0} (xs : List X) → take 0 xs ≡ []
take_none [] = refl
take_none (x ∷ xs) = refl

next : {X : Type 0} (f : X → List ℕ) (xs : List X) (i : ℕ) (x : X) → slice_get xs i ≡ Some x
    → flat_map f (take (suc i) xs) ≡ flat_map f (take i xs) ++ f x
next f [] i x there = absurd (omega (arith, slice_get_within [] i x there))
next f (y ∷ ys) zero x there =
    let is : y ≡ x = cc in
    ap (λ (rest : List ℕ). f y ++ rest) (ap (flat_map f) (take_none ys)) ∙ append-nil (f y) ∙ ap f is
next f (y ∷ ys) (suc i) x there =
    ap (λ (rest : List ℕ). f y ++ rest) (next f ys i x there) ∙ sym (append_assoc (f y) (flat_map f (take i ys)) (f x))

-- the text of one item more
pub flat_map-next : {X : Type 0} (f : X → List ℕ) (xs : List X) (i : ℕ) (x : X) → slice_get xs i ≡ Some x
    → flat_map f (take (i + 1) xs) ≡ flat_map f (take i xs) ++ f x
flat_map-next f xs i x there = rw add-one (next f xs i x there)

-- the text of the items before one, of that one, and of those behind it
pub flat_map-split : {X : Type 0} (f : X → List ℕ) (xs : List X) (i : ℕ) (x : X) → slice_get xs i ≡ Some x
    → flat_map f xs ≡ flat_map f (take i xs) ++ (f x ++ flat_map f (drop (i + 1) xs))
flat_map-split f xs i x there =
    let rest = flat_map f (drop (i + 1) xs) in
    ap (flat_map f) (sym (take-append-drop (i + 1) xs)) ∙ flat_map-append f (take (i + 1) xs) (drop (i + 1) xs)
    ∙ ap (λ (front : List ℕ). front ++ rest) (flat_map-next f xs i x there)
    ∙ append_assoc (flat_map f (take i xs)) (f x) rest
