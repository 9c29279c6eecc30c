-- What is in lists that are made of others.
use Rattle.std.proofs.Common.{◌≡◌, Bool, true, false, cond, List, [], ◌∷◌, map, Option, Some, None, Contains, refl, sym, ap, ◌∙◌, subst, inl, inr, ◌⊎◌, arith}
use Rattle.std.specs.Prelude.{filter}
use Rattle.std.specs.List.{filter_map, cons_option}
use Rattle.std.proofs.lemmas.List.Elements.{Contains-append_left, Contains-append_right, Contains-append_cases}
use Rattle.yp_netgroup.proofs.reverse.Meeting.{contains-none, contains-one}

-- the first item is in a list, and so are those of the rest
pub first-in : {X : Type 0} (x : X) (xs : List X) → Contains (x ∷ xs) x
first-in x xs = Contains-append_left (x ∷ []) xs x (0, omega arith, refl)

pub later-in : {X : Type 0} (x : X) (xs : List X) (y : X) → Contains xs y → Contains (x ∷ xs) y
later-in x xs y h = Contains-append_right (x ∷ []) xs y h

pub in-cases : {X : Type 0} (x : X) (xs : List X) (y : X) → Contains (x ∷ xs) y → (x ≡ y) ⊎ Contains xs y
in-cases x xs y h =
    elim (Contains-append_cases (x ∷ []) xs y h) [ inl here ↦ inl (contains-one x y here) | inr later ↦ inr later ]

-- ---- of a map

pub record Mapped {X Y : Type 0} (f : X → Y) (xs : List X) (y : Y) : Type 0 where
  pub it : X
  pub there : Contains xs it
  pub same : f it ≡ y

pub Contains-map : {X Y : Type 0} (f : X → Y) (xs : List X) (x : X) → Contains xs x → Contains (map f xs) (f x)
Contains-map f [] x h = absurd (contains-none x h)
Contains-map f (z ∷ xs) x h =
    elim (in-cases z xs x h) [
      | inl e ↦ subst (λ w. Contains (f z ∷ map f xs) w) (ap f e) (first-in (f z) (map f xs))
      | inr later ↦ later-in (f z) (map f xs) (f x) (Contains-map f xs x later)
    ]

pub mapped : {X Y : Type 0} (f : X → Y) (xs : List X) (y : Y) → Contains (map f xs) y → Mapped f xs y
mapped f [] y h = absurd (contains-none y h)
mapped f (x ∷ xs) y h =
    elim (in-cases (f x) (map f xs) y h) [
      | inl e ↦ record { it = x; there = first-in x xs; same = e }
      | inr later ↦ let at = mapped f xs y later in record { it = at.it; there = later-in x xs at.it at.there; same = at.same }
    ]

-- ---- of a filter

pub Contains-filter : {X : Type 0} (p : X → Bool) (xs : List X) (x : X) → Contains xs x → p x ≡ true → Contains (filter p xs) x
Contains-filter p [] x h e = absurd (contains-none x h)
Contains-filter p (y ∷ xs) x h e =
    elim (in-cases y xs x h) [
      | inl is ↦ subst (λ b. Contains (cond b (y ∷ filter p xs) (filter p xs)) x) (sym (ap p is ∙ e))
          (subst (λ z. Contains (y ∷ filter p xs) z) is (first-in y (filter p xs)))
      | inr later ↦ by (p y) (Contains-filter p xs x later e)
    ]
  where
    by : (b : Bool) → Contains (filter p xs) x → Contains (cond b (y ∷ filter p xs) (filter p xs)) x
    by true h = later-in y (filter p xs) x h
    by false h = h

pub from-filter : {X : Type 0} (p : X → Bool) (xs : List X) (x : X) → Contains (filter p xs) x → Contains xs x × (p x ≡ true)
from-filter p [] x h = absurd (contains-none x h)
from-filter p (y ∷ xs) x h = by (p y) refl (from-filter p xs x) h
  where
    by : (b : Bool) → p y ≡ b → (Contains (filter p xs) x → Contains xs x × (p x ≡ true))
        → Contains (cond b (y ∷ filter p xs) (filter p xs)) x → Contains (y ∷ xs) x × (p x ≡ true)
    by true e rest h = elim (in-cases y (filter p xs) x h) [
      | inl is ↦ (subst (λ z. Contains (y ∷ xs) z) is (first-in y xs), sym (ap p is) ∙ e)
      | inr later ↦ let two = rest later in (later-in y xs x two.0, two.1)
    ]
    by false e rest h = let two = rest h in (later-in y xs x two.0, two.1)

-- ---- of what is picked

pub record Picked {X Y : Type 0} (pick : X → Option Y) (xs : List X) (y : Y) : Type 0 where
  pub it : X
  pub there : Contains xs it
  pub is : pick it ≡ Some y

pub picked : {X Y : Type 0} (pick : X → Option Y) (xs : List X) (y : Y) → Contains (filter_map pick xs) y → Picked pick xs y
picked pick [] y h = absurd (contains-none y h)
picked pick (x ∷ xs) y h = by (pick x) refl (picked pick xs y) h
  where
    more : Picked pick xs y → Picked pick (x ∷ xs) y
    more at = record { it = at.it; there = later-in x xs at.it at.there; is = at.is }

    by : (o : Option _) → pick x ≡ o → (Contains (filter_map pick xs) y → Picked pick xs y)
        → Contains (cons_option o (filter_map pick xs)) y → Picked pick (x ∷ xs) y
    by None e rest h = more (rest h)
    by (Some z) e rest h = elim (in-cases z (filter_map pick xs) y h) [
      | inl is ↦ record { it = x; there = first-in x xs; is = e ∙ ap Some is }
      | inr later ↦ more (rest later)
    ]

pub Contains-pick : {X Y : Type 0} (pick : X → Option Y) (xs : List X) (x : X) (y : Y) → Contains xs x → pick x ≡ Some y
    → Contains (filter_map pick xs) y
Contains-pick pick [] x y h e = absurd (contains-none x h)
Contains-pick pick (z ∷ xs) x y h e =
    elim (in-cases z xs x h) [
      | inl is ↦ subst (λ o. Contains (cons_option o (filter_map pick xs)) y) (sym (ap pick is ∙ e)) (first-in y (filter_map pick xs))
      | inr later ↦ by (pick z) (Contains-pick pick xs x y later e)
    ]
  where
    by : (o : Option _) → Contains (filter_map pick xs) y → Contains (cons_option o (filter_map pick xs)) y
    by None h = h
    by (Some w) h = later-in w (filter_map pick xs) y h
