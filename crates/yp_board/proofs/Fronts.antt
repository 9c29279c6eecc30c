-- Two beginnings of one log.
use Rattle.std.proofs.Common.{◌≡◌, ℕ, ◌≤◌, ◌<◌, Bool, true, false, ltb, List, []}
use Rattle.std.proofs.Common.{◌∷◌, ◌++◌, length, refl, ap, sym, ◌∙◌, ◌+◌, arith, length-append}
use Rattle.std.specs.Bool.{MatchBool}
use Rattle.std.proofs.lemmas.Bool.Decides.{nat_tests}
use mathlib.Core.List.{IsPrefix}

-- a beginning as long as the whole is the whole
pub prefix_whole : {A : Type 0} (xs ys : List A) → IsPrefix xs ys → length ys ≤ length xs → xs ≡ ys
prefix_whole [] [] p le = refl
prefix_whole [] (y ∷ ys) p le = absurd (omega arith)
prefix_whole (x ∷ xs) [] p le = absurd (cc (p.1))
prefix_whole (x ∷ xs) (y ∷ ys) p le =
    let rest = prefix_whole xs ys (p.0, cc (p.1)) (omega arith) in cc (p.1, rest)

-- of two beginnings of one list the longer begins with the shorter
pub front_of : {A : Type 0} (xs ys zs : List A) → IsPrefix xs zs → IsPrefix ys zs → length xs ≤ length ys
    → (more : List A) × (ys ≡ xs ++ more)
front_of [] ys zs p q le = (ys, refl)
front_of (x ∷ xs) [] zs p q le = absurd (omega arith)
front_of (x ∷ xs) (y ∷ ys) [] p q le = absurd (cc (p.1))
front_of (x ∷ xs) (y ∷ ys) (z ∷ zs) p q le =
    let heads : x ≡ y = cc (p.1, q.1) in
    let rest = front_of xs ys zs (p.0, cc (p.1)) (q.0, cc (q.1)) (omega arith) in
    (rest.0, cc (heads, rest.1))

behind_on : {A : Type 0} (xs ys both : List A) (a b : ℕ) → a ≡ length xs → b ≡ length ys → IsPrefix xs both
    → IsPrefix ys both → (t : Bool) → ltb a b ≡ t
    → MatchBool t ((more : List A) × (ys ≡ xs ++ more)) ((more : List A) × (xs ≡ ys ++ more))
behind_on xs ys both a b n m p q true is =
    let less : a < b = grind (arith, nat_tests) in
    let within : length xs ≤ length ys = omega arith in
    front_of xs ys both p q within
behind_on xs ys both a b n m p q false is =
    let more : b ≤ a = grind (arith, nat_tests) in
    let within : length ys ≤ length xs = omega arith in
    front_of ys xs both q p within

-- which one it is, by their lengths
pub behind_or : {A : Type 0} (xs ys both : List A) (a b : ℕ) → a ≡ length xs → b ≡ length ys → IsPrefix xs both
    → IsPrefix ys both
    → MatchBool (ltb a b) ((more : List A) × (ys ≡ xs ++ more)) ((more : List A) × (xs ≡ ys ++ more))
behind_or xs ys both a b n m p q = behind_on xs ys both a b n m p q (ltb a b) refl

prefix_length : {A : Type 0} (xs ys : List A) → IsPrefix xs ys → length xs ≤ length ys
prefix_length xs ys p = omega (arith, sym (ap length p.1) ∙ length-append xs p.0)

-- what begins a list that is no longer than another beginning of it begins that one
pub covered : {A : Type 0} (front log both seen : List A) (n : ℕ) → IsPrefix log both → IsPrefix front both
    → IsPrefix both seen → length seen + 2 ≤ n → n ≡ length log + 2 → (more : List A) × (log ≡ front ++ more)
covered front log both seen n p q r most key =
    let longer : length both ≤ length seen = prefix_length both seen r in
    let within : length front ≤ length both = prefix_length front both q in
    front_of front log both q p (omega (arith, most, key, longer, within))

-- two lists of which each begins with the other are one
pub both_fronts : {A : Type 0} (xs ys : List A) → (more : List A) × (ys ≡ xs ++ more)
    → (more : List A) × (xs ≡ ys ++ more) → xs ≡ ys
both_fronts [] [] p q = refl
both_fronts [] (y ∷ ys) p q = absurd (cc (q.1))
both_fronts (x ∷ xs) [] p q = absurd (cc (p.1))
both_fronts (x ∷ xs) (y ∷ ys) p q =
    let rest = both_fronts xs ys (p.0, cc (p.1)) (q.0, cc (q.1)) in cc (p.1, rest)
