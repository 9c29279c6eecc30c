-- Lists whose first element is known.
use Rattle.std.proofs.Common.{◌≡◌, ℕ, zero, suc, ◌+◌, ◌-◌, ◌<◌, ◌≤◌, Bool, true, false, List, [], ◌∷◌, ◌++◌, length}
use Rattle.std.proofs.Common.{take, drop, map, set, get_or}
use Rattle.std.proofs.Common.{Some, None, refl, sym, ap, ◌∙◌, arith}
use Rattle.std.proofs.Common.{ltb}
use Rattle.std.specs.List.{before_first, position, position_or_len, slice_get}
use Rattle.std.proofs.lemmas.Bool.{le-ltb, lt-ltb}
use Rattle.std.proofs.lemmas.List.Sums.{position_or_len_is}

-- nothing stands before the first element that passes, where the first does
pub before_first-yes : {X : Type 0} (p : X → Bool) (x : X) (xs : List X) → p x ≡ true → before_first p (x ∷ xs) ≡ []
before_first-yes p x xs is = rw is refl

-- else the first element does
pub before_first-no : {X : Type 0} (p : X → Bool) (x : X) (xs : List X) → p x ≡ false
    → before_first p (x ∷ xs) ≡ x ∷ before_first p xs
before_first-no p x xs is =
    let n = position_or_len p xs in
    let place : 1 + n ≡ suc n = omega arith in
    rw (is, place) refl

-- what a list gives in its front, and behind it
pub slice_get-front : {X : Type 0} (xs ys : List X) (i : ℕ) → i < length xs → slice_get (xs ++ ys) i ≡ slice_get xs i
slice_get-front [] ys i lt = absurd (omega (arith, lt))
slice_get-front (x ∷ xs) ys zero lt = refl
slice_get-front (x ∷ xs) ys (suc i) lt = slice_get-front xs ys i (omega (arith, lt))

pub slice_get-behind : {X : Type 0} (xs ys : List X) (i : ℕ) → length xs ≤ i
    → slice_get (xs ++ ys) i ≡ slice_get ys (i - length xs)
slice_get-behind [] ys i le = let same : i - 0 ≡ i = omega arith in rw same refl
slice_get-behind (x ∷ xs) ys zero le = absurd (omega (arith, le))
slice_get-behind (x ∷ xs) ys (suc i) le =
    let same : suc i - suc (length xs) ≡ i - length xs = omega arith in
    slice_get-behind xs ys i (omega (arith, le)) ∙ ap (λ (k : ℕ). slice_get ys k) (sym same)

-- what a list gives is there
pub slice_get-there : {X : Type 0} (xs : List X) (i : ℕ) (x : X) → slice_get xs i ≡ Some x → i < length xs
slice_get-there [] i x e = absurd cc
slice_get-there (y ∷ xs) zero x e = omega arith
slice_get-there (y ∷ xs) (suc i) x e = let more = slice_get-there xs i x e in omega (arith, more)

-- ---- a list of which a front was mapped

pub mapped_item : {X : Type 0} (f : X → X) (xs : List X) (i : ℕ) (d : X)
    → get_or (map f (take i xs) ++ drop i xs) i d ≡ get_or xs i d
mapped_item f [] zero d = refl
mapped_item f [] (suc i) d = refl
mapped_item f (x ∷ xs) zero d = refl
mapped_item f (x ∷ xs) (suc i) d = mapped_item f xs i d

pub mapped_more : {X : Type 0} (f : X → X) (xs : List X) (i : ℕ) (d : X) → i < length xs
    → set (map f (take i xs) ++ drop i xs) i (f (get_or xs i d)) ≡ map f (take (suc i) xs) ++ drop (suc i) xs
mapped_more f [] i d lt = absurd (omega (arith, lt))
mapped_more f (x ∷ xs) zero d lt = refl
mapped_more f (x ∷ xs) (suc i) d lt = ap (λ zs. f x ∷ zs) (mapped_more f xs i d (omega (arith, lt)))

-- ---- the place of the first element that passes

pub position_found : {X : Type 0} (p : X → Bool) (xs : List X) (i : ℕ) (d : X) → i < length xs
    → ((k : ℕ) → k < i → p (get_or xs k d) ≡ false) → p (get_or xs i d) ≡ true → Some i ≡ position p xs
position_found p xs i d lt before here =
    let place : position_or_len p xs ≡ i = position_or_len_is p xs i d (omega (arith, lt)) before (λ _. here) in
    let under : ltb i (length xs) ≡ true = lt-ltb i (length xs) lt in
    rw (place, under) refl

pub position_none : {X : Type 0} (p : X → Bool) (xs : List X) (d : X)
    → ((k : ℕ) → k < length xs → p (get_or xs k d) ≡ false) → None ≡ position p xs
position_none p xs d none =
    let n = length xs in
    let place : position_or_len p xs ≡ n =
    position_or_len_is p xs n d (omega arith) none (λ lt. absurd (omega (arith, lt))) in
    let over : ltb n n ≡ false = le-ltb n n (omega arith) in
    rw (place, over) refl
