-- Lists to whose end one more element is added.
use Rattle.std.proofs.Common.{◌≡◌, ℕ, zero, suc, ◌+◌, Bool, true, false, List, [], ◌∷◌, ◌++◌}
use Rattle.std.proofs.Common.{Option, Some, None, refl, sym, ap, ◌∙◌, arith}
use Rattle.std.specs.List.{list_any, filter_map, cons_option, after_first, position_or_len, range_with_len}
use Rattle.yp_push.specs.Results.{first_of}

-- the first element passes
after_first-yes : {X : Type 0} (p : X → Bool) (x : X) (xs : List X) → p x ≡ true → after_first p (x ∷ xs) ≡ xs
after_first-yes p x xs is = rw is refl

-- the first element doesn't pass
after_first-no : {X : Type 0} (p : X → Bool) (x : X) (xs : List X) → p x ≡ false
    → after_first p (x ∷ xs) ≡ after_first p xs
after_first-no p x xs is =
    let n = position_or_len p xs in
    let place : 1 + n + 1 ≡ suc (n + 1) = omega arith in
    rw (is, place) refl

-- an element that passes stands before the end
push_by : {X : Type 0} (p : X → Bool) (x : X) (xs : List X) (y : X) (b : Bool) → p x ≡ b
    → (list_any p xs ≡ true → after_first p (xs ++ y ∷ []) ≡ after_first p xs ++ y ∷ [])
    → list_any p (x ∷ xs) ≡ true → after_first p (x ∷ (xs ++ y ∷ [])) ≡ after_first p (x ∷ xs) ++ y ∷ []
push_by p x xs y true is more any =
    after_first-yes p x (xs ++ y ∷ []) is ∙ ap (λ zs. zs ++ y ∷ []) (sym (after_first-yes p x xs is))
push_by p x xs y false is more any =
    let other : list_any p xs ≡ true = rw is at any in
    after_first-no p x (xs ++ y ∷ []) is ∙ more other ∙ ap (λ zs. zs ++ y ∷ []) (sym (after_first-no p x xs is))

pub after_first-push : {X : Type 0} (p : X → Bool) (xs : List X) (y : X) → list_any p xs ≡ true
    → after_first p (xs ++ y ∷ []) ≡ after_first p xs ++ y ∷ []
after_first-push p [] y any = absurd cc
after_first-push p (x ∷ xs) y any = push_by p x xs y (p x) refl (after_first-push p xs y) any

-- the first element that passes is the last one
none_by : {X : Type 0} (p : X → Bool) (x : X) (xs : List X) (y : X) (b : Bool) → p x ≡ b
    → (list_any p xs ≡ false → after_first p (xs ++ y ∷ []) ≡ []) → list_any p (x ∷ xs) ≡ false
    → after_first p (x ∷ (xs ++ y ∷ [])) ≡ []
none_by p x xs y true is more any = let wrong : true ≡ false = rw is at any in absurd cc
none_by p x xs y false is more any =
    let other : list_any p xs ≡ false = rw is at any in
    after_first-no p x (xs ++ y ∷ []) is ∙ more other

pub after_first-last : {X : Type 0} (p : X → Bool) (xs : List X) (y : X) → list_any p xs ≡ false → p y ≡ true
    → after_first p (xs ++ y ∷ []) ≡ []
after_first-last p [] y any is = after_first-yes p y [] is
after_first-last p (x ∷ xs) y any is = none_by p x xs y (p x) refl (λ none. after_first-last p xs y none is) any

-- one, or else the other
abbrev pub or_else : {X : Type 0} → Option X → Option X → Option X
or_else None other = other
or_else (Some x) other = Some x

first_of-cons : {X : Type 0} (o : Option X) (xs : List X) → first_of (cons_option o xs) ≡ or_else o (first_of xs)
first_of-cons None xs = refl
first_of-cons (Some x) xs = refl

or_else-assoc : {X : Type 0} (a b c : Option X) → or_else a (or_else b c) ≡ or_else (or_else a b) c
or_else-assoc None b c = refl
or_else-assoc (Some x) b c = refl

or_else-none : {X : Type 0} (a : Option X) → or_else a None ≡ a
or_else-none None = refl
or_else-none (Some x) = refl

-- the first that a list gives is that of its front, or else that of its last element
pub first_of-push : {X Y : Type 0} (h : X → Option Y) (xs : List X) (y : X)
    → first_of (filter_map h (xs ++ y ∷ [])) ≡ or_else (first_of (filter_map h xs)) (h y)
first_of-push h [] y = first_of-cons (h y) [] ∙ or_else-none (h y)
first_of-push h (x ∷ xs) y =
    first_of-cons (h x) (filter_map h (xs ++ y ∷ [])) ∙ ap (λ o. or_else (h x) o) (first_of-push h xs y)
    ∙ or_else-assoc (h x) (first_of (filter_map h xs)) (h y)
    ∙ ap (λ o. or_else o (h y)) (sym (first_of-cons (h x) (filter_map h xs)))

-- one more number behind the others
pub range-push : (a n : ℕ) → range_with_len a (n + 1) ≡ range_with_len a n ++ (a + n) ∷ []
range-push a zero = let e : a + 0 ≡ a = omega arith in rw e refl
range-push a (suc n) =
    let e : suc n + 1 ≡ suc (n + 1) = omega arith in
    let f : a + suc n ≡ a + 1 + n = omega arith in
    rw (e, f) (ap (λ zs. a ∷ zs) (range-push (a + 1) n))
