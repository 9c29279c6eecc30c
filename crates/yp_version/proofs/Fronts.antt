-- Rows that are told apart by the first bytes of their keys stand as their whole keys do.
use Rattle.std.proofs.Common.{◌≡◌, ℕ, zero, suc, ◌+◌, ◌*◌, ◌^◌, ◌<◌, ◌≤◌, List, [], ◌∷◌, map, take, drop, length, get_or, is_lt, Less, Equal, Greater, IsPermutation, Result, Ok, Err, IfOk, refl, sym, ap, ◌∙◌, subst, inl, inr, arith}
use Rattle.std.proofs.Math.Nat.{pow-suc, mul-le-mul_right, suc-mul}
use Rattle.std.proofs.lemmas.Bool.{cases_Bool, ltb-true, ltb-false}
use Rattle.std.proofs.lemmas.List.{get_or-map, length-map}
use Rattle.std.proofs.lemmas.List.Elements.{All-map}
use Rattle.std.proofs.lemmas.List.Sorted.{All-permutation, IsPermutation-map}
use Rattle.std.specs.Cmp.{nat_cmp_is}
use Rattle.std.specs.List.Sorted.{IsSortedBy}
use Rattle.std.specs.Ordering.{nat_cmp, ordering_then}
use Rattle.std.specs.Prelude.{slice_index, nat_lt}
use Rattle.yp_xdr.specs.inside.Reading.{IsBytes}
use Rattle.yp_version.specs.Rows.{key_cmp}
use Rattle.yp_version.specs.inside.Slabs.{opaque_from, key_from}
use Rattle.yp_version.specs.inside.Ranks.{front_of, ranked_at, rank_cmp}
use Rattle.yp_version.specs.declared.ranks.Ranked.{Ranked}
use Rattle.yp_version.proofs.Keys.{cmp_back}

-- ---- numbers of bytes

-- the number of the first n bytes, with zeros behind the last one
abbrev front : ℕ → List ℕ → ℕ
front zero bytes = 0
front (suc n) [] = 0
front (suc n) (byte ∷ bytes) = byte * 256 ^ n + front n bytes

some_worth : (n : ℕ) → 0 < 256 ^ n
some_worth zero = omega arith
some_worth (suc n) = let h = some_worth n in let e = pow-suc 256 n in omega arith

front_below : (n : ℕ) (bytes : List ℕ) → IsBytes bytes → front n bytes < 256 ^ n
front_below zero bytes are = omega arith
front_below (suc n) [] are = some_worth (suc n)
front_below (suc n) (byte ∷ bytes) are =
    let rest = front_below n bytes (λ i. are (suc i)) in
    let one : byte < 256 = are zero in
    let most : byte * 256 ^ n ≤ 255 * 256 ^ n = mul-le-mul_right (256 ^ n) (let e : byte ≤ 255 = omega arith in e) in
    let e = pow-suc 256 n in
    omega arith

lower : (a b : ℕ) → a < b → nat_cmp a b ≡ Less
lower a b lt = sym (nat_cmp_is a b Less lt)

alike : (a b : ℕ) → a ≡ b → nat_cmp a b ≡ Equal
alike a b same = sym (nat_cmp_is a b Equal same)

higher : (a b : ℕ) → b < a → nat_cmp a b ≡ Greater
higher a b gt = sym (nat_cmp_is a b Greater gt)

-- bytes whose number is lower come first
front_less : (n : ℕ) (a b : List ℕ) → IsBytes a → IsBytes b → front n a < front n b → key_cmp a b ≡ Less
front_less zero a b one other lt = absurd (omega (arith, lt))
front_less (suc n) [] [] one other lt = absurd (omega (arith, lt))
front_less (suc n) [] (y ∷ b) one other lt = refl
front_less (suc n) (x ∷ a) [] one other lt = absurd (omega (arith, lt))
front_less (suc n) (x ∷ a) (y ∷ b) one other lt = elim (cases_Bool (nat_lt x y)) [
  | inl below ↦ ap (λ o. ordering_then o (key_cmp a b)) (lower x y (ltb-true x y below))
  | inr not_below ↦
      let le = ltb-false x y not_below in
      elim (cases_Bool (nat_lt y x)) [
        | inl above ↦
            let gt = ltb-true y x above in
            let worth : suc y * 256 ^ n ≤ x * 256 ^ n = mul-le-mul_right (256 ^ n) gt in
            let e = suc-mul y (256 ^ n) in
            let few = front_below n b (λ i. other (suc i)) in
            absurd (omega (arith, lt, worth, e, few))
        | inr not_above ↦
            let same : x ≡ y = let ge = ltb-false y x not_above in omega (arith, le, ge) in
            let rest : front n a < front n b = let w = ap (λ k. k * 256 ^ n) same in omega (arith, lt, w) in
            ap (λ o. ordering_then o (key_cmp a b)) (alike x y same)
            ∙ front_less n a b (λ i. one (suc i)) (λ i. other (suc i)) rest
      ]
]

-- the same number by places
abbrev placed : ℕ → ℕ → List ℕ → ℕ
placed zero i bytes = 0
placed (suc n) i bytes = slice_index bytes i * 256 ^ n + placed n (suc i) bytes

placed_none : (n i : ℕ) → placed n i [] ≡ 0
placed_none zero i = refl
placed_none (suc n) i = let rest = placed_none n (suc i) in omega arith

placed_more : (n i x : ℕ) (bytes : List ℕ) → placed n (suc i) (x ∷ bytes) ≡ placed n i bytes
placed_more zero i x bytes = refl
placed_more (suc n) i x bytes = ap (λ k. slice_index bytes i * 256 ^ n + k) (placed_more n (suc i) x bytes)

placed_front : (n : ℕ) (bytes : List ℕ) → placed n 0 bytes ≡ front n bytes
placed_front zero bytes = refl
placed_front (suc n) [] = placed_none (suc n) 0
placed_front (suc n) (x ∷ bytes) = ap (λ k. x * 256 ^ n + k) (placed_more n 0 x bytes ∙ placed_front n bytes)

front_is : (key : List ℕ) → front_of key ≡ front 8 key
unfolding front_of
front_is key = (let e : front_of key ≡ placed 8 0 key = omega arith in e) ∙ placed_front 8 key

-- ---- bytes of a slab

taken : (n : ℕ) (bytes : List ℕ) → IsBytes bytes → IsBytes (take n bytes)
taken zero bytes are i = omega arith
taken (suc n) [] are i = omega arith
taken (suc n) (byte ∷ bytes) are zero = are zero
taken (suc n) (byte ∷ bytes) are (suc i) = taken n bytes (λ j. are (suc j)) i

dropped : (n : ℕ) (bytes : List ℕ) → IsBytes bytes → IsBytes (drop n bytes)
dropped zero bytes are = are
dropped (suc n) [] are = are
dropped (suc n) (byte ∷ bytes) are = dropped n bytes (λ j. are (suc j))

key_bytes : (bytes : List ℕ) (place : ℕ) → IsBytes bytes → IsBytes (key_from bytes place)
unfolding opaque_from
key_bytes bytes place are = taken _ (drop 4 (drop place bytes)) (dropped 4 (drop place bytes) (dropped place bytes are))

-- ---- rows

fronts_tell : (a b : List ℕ) → IsBytes a → IsBytes b → ordering_then (nat_cmp (front_of a) (front_of b)) (key_cmp a b) ≡ key_cmp a b
fronts_tell a b one other =
    let f = front_is a in
    let g = front_is b in
    elim (cases_Bool (nat_lt (front_of a) (front_of b))) [
      | inl below ↦
          let lt = ltb-true (front_of a) (front_of b) below in
          ap (λ o. ordering_then o (key_cmp a b)) (lower (front_of a) (front_of b) lt)
          ∙ sym (front_less 8 a b one other (omega (arith, lt, f, g)))
      | inr not_below ↦
          let le = ltb-false (front_of a) (front_of b) not_below in
          elim (cases_Bool (nat_lt (front_of b) (front_of a))) [
            | inl above ↦
                let gt = ltb-true (front_of b) (front_of a) above in
                ap (λ o. ordering_then o (key_cmp a b)) (higher (front_of a) (front_of b) gt)
                ∙ sym (cmp_back b a (front_less 8 b a other one (omega (arith, gt, f, g))))
            | inr not_above ↦
                let ge = ltb-false (front_of b) (front_of a) not_above in
                ap (λ o. ordering_then o (key_cmp a b)) (alike (front_of a) (front_of b) (omega (arith, le, ge)))
          ]
    ]

places_again : (bytes : List ℕ) (places : List ℕ) → map (λ (row : Ranked). row.place) (map (ranked_at bytes) places) ≡ places
places_again bytes [] = refl
places_again bytes (place ∷ places) = ap (λ l. place ∷ l) (places_again bytes places)

pub ranked_moved : (bytes places : List ℕ) (sorted : List Ranked) → IsPermutation (map (ranked_at bytes) places) sorted
    → IsPermutation places (map (λ (row : Ranked). row.place) sorted)
ranked_moved bytes places sorted moved =
    subst (λ (l : List ℕ). IsPermutation l (map (λ (row : Ranked). row.place) sorted)) (places_again bytes places)
    (IsPermutation-map (λ (row : Ranked). row.place) (map (ranked_at bytes) places) sorted moved)

pub ranked_sorted : (bytes places : List ℕ) (sorted : List Ranked) → IsBytes bytes → IsPermutation (map (ranked_at bytes) places) sorted
    → IsSortedBy (λ a b. is_lt (rank_cmp bytes a b)) sorted
    → IsSortedBy (λ a b. is_lt (key_cmp (key_from bytes a) (key_from bytes b))) (map (λ (row : Ranked). row.place) sorted)
ranked_sorted bytes places sorted are moved up k d low high =
    let len = length-map sorted (λ (row : Ranked). row.place) in
    let here : k < length sorted = omega (arith, len, high) in
    let there : k + 1 < length sorted = omega (arith, len, high) in
    let x : Ranked = ranked_at bytes d in
    let a : Ranked = get_or sorted (k + 1) x in
    let b : Ranked = get_or sorted k x in
    let right = All-permutation (λ (row : Ranked). row ≡ ranked_at bytes row.place) (map (ranked_at bytes) places) sorted moved
    (All-map (λ (row : Ranked). row ≡ ranked_at bytes row.place) (ranked_at bytes) places (λ i p within. refl)) in
    let same : rank_cmp bytes a b ≡ key_cmp (key_from bytes a.place) (key_from bytes b.place) =
    (λ i. rank_cmp bytes (right (k + 1) x there i) (right k x here i))
    ∙ fronts_tell (key_from bytes a.place) (key_from bytes b.place) (key_bytes bytes a.place are) (key_bytes bytes b.place are) in
    let at_a = get_or-map (λ (row : Ranked). row.place) sorted (k + 1) x d there in
    let at_b = get_or-map (λ (row : Ranked). row.place) sorted k x d here in
    (λ i. is_lt (key_cmp (key_from bytes (at_a i)) (key_from bytes (at_b i)))) ∙ ap is_lt (sym same) ∙ up k x (omega arith) there

-- what follows for a value that was made
pub if_made : {X E : Type 0} (P Q : X → Type 0) (result : Result X E) → ((x : X) → P x → Q x) → IfOk result P → IfOk result Q
if_made P Q (Ok x) follows holds = follows x holds
if_made P Q (Err e) follows holds = tt
