-- How many numbers of a range pass a test.
use Rattle.std.proofs.Common.{◌≡◌, ◌≢◌, ℕ, zero, suc, ◌+◌, ◌<◌, ◌≤◌, ◌⊎◌, Bool, false, cond}
use Rattle.std.proofs.Common.{refl, ap, ◌∙◌, arith, inl, inr}
use Rattle.std.specs.List.{count_by, range_with_len}
use Rattle.std.proofs.Math.Nat.{eq-or-lt_of_le}
use Rattle.std.proofs.lemmas.List.Sums.{sum_by-cons}

abbrev pub one_if : Bool → ℕ
one_if b = cond b 1 0

-- the first number, and the others
count_cons : (p : ℕ → Bool) (a n : ℕ)
    → count_by p (range_with_len a (suc n)) ≡ one_if (p a) + count_by p (range_with_len (a + 1) n)
count_cons p a n = sum_by-cons (λ k. one_if (p k)) a (range_with_len (a + 1) n)

-- tests that agree count the same
pub count_same : (p q : ℕ → Bool) (a n : ℕ) → ((k : ℕ) → a ≤ k → k < a + n → p k ≡ q k)
    → count_by p (range_with_len a n) ≡ count_by q (range_with_len a n)
count_same p q a zero same = refl
count_same p q a (suc n) same =
    let here : one_if (p a) ≡ one_if (q a) = ap one_if (same a (omega arith) (omega arith)) in
    let more : count_by p (range_with_len (a + 1) n) ≡ count_by q (range_with_len (a + 1) n) =
    count_same p q (a + 1) n (λ k low high. same k (omega arith) (omega arith)) in
    omega (arith, here, more, count_cons p a n, count_cons q a n)

-- none passes
pub count_none : (p : ℕ → Bool) (a n : ℕ) → ((k : ℕ) → a ≤ k → k < a + n → p k ≡ false)
    → count_by p (range_with_len a n) ≡ 0
count_none p a zero none = refl
count_none p a (suc n) none =
    let here : one_if (p a) ≡ 0 = ap one_if (none a (omega arith) (omega arith)) in
    let more : count_by p (range_with_len (a + 1) n) ≡ 0 =
    count_none p (a + 1) n (λ k low high. none k (omega arith) (omega arith)) in
    omega (arith, here, more, count_cons p a n)

-- tests that agree but for one number, which no longer passes
one_less_at : (p q : ℕ → Bool) (a n i : ℕ) (order : (a ≡ i) ⊎ (a < i)) → i < a + suc n
    → ((k : ℕ) → a ≤ k → k < a + suc n → k ≢ i → q k ≡ p k) → q i ≡ false
    → (a < i → count_by q (range_with_len (a + 1) n) + one_if (p i) ≡ count_by p (range_with_len (a + 1) n))
    → count_by q (range_with_len a (suc n)) + one_if (p i) ≡ count_by p (range_with_len a (suc n))
one_less_at p q a n i (inl same) below others gone more =
    let rest : count_by q (range_with_len (a + 1) n) ≡ count_by p (range_with_len (a + 1) n) =
    count_same q p (a + 1) n (λ k low high. others k (omega arith) (omega arith) (λ e. omega (arith, e, same))) in
    let here : q a ≡ false = ap q same ∙ gone in
    let is : one_if (p a) ≡ one_if (p i) = ap one_if (ap p same) in
    let none : one_if (q a) ≡ 0 = ap one_if here in
    omega (arith, none, rest, is, count_cons p a n, count_cons q a n)
one_less_at p q a n i (inr above) below others gone more =
    let here : q a ≡ p a = others a (omega arith) (omega arith) (λ e. omega (arith, e)) in
    let same : one_if (q a) ≡ one_if (p a) = ap one_if here in
    omega (arith, same, more above, count_cons p a n, count_cons q a n)

pub one_less : (p q : ℕ → Bool) (a n i : ℕ) → a ≤ i → i < a + n
    → ((k : ℕ) → a ≤ k → k < a + n → k ≢ i → q k ≡ p k) → q i ≡ false
    → count_by q (range_with_len a n) + one_if (p i) ≡ count_by p (range_with_len a n)
one_less p q a zero i low below others gone = absurd (omega arith)
one_less p q a (suc n) i low below others gone =
    one_less_at p q a n i (eq-or-lt_of_le low) below others gone
    (λ above. one_less p q (a + 1) n i (omega arith) (omega arith)
    (λ k from to differs. others k (omega arith) (omega arith) differs) gone)
