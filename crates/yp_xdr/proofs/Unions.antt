-- Values behind one of two numbers, by what holds of the two kinds.
use Rattle.std.proofs.Common.{◌≡◌, ℕ, ◌+◌, Bool, true, false, ◌||◌, cond, ℤ, List, [], ◌∷◌, ◌++◌, length, Ok}
use Rattle.std.proofs.Common.{refl, sym, ap, subst, ◌∙◌, append_assoc, arith, inl, inr}
use Rattle.std.specs.Prelude.{◌⊎◌}
use Rattle.std.specs.Ordering.{int_eq}
use Rattle.std.specs.Int.{w32, cast_unsigned}
use Rattle.std.proofs.lemmas.Bool.Decides.{Decides-int_eq}
use Rattle.std.proofs.lemmas.List.{length-append}
use Rattle.yp_xdr.specs.Kind.{Kind, Enum, Union, Value}
use Rattle.yp_xdr.specs.Spelling.{word, spelling}
use Rattle.yp_xdr.specs.Reading.{Remaining, one_of_at, first_at, second_at, reading}
use Rattle.yp_xdr.specs.inside.Reading.{BeginsWith}
use Rattle.yp_xdr.proofs.Words.{bind_ok, ok_is, IsBytes-behind}
use Rattle.yp_xdr.proofs.Items.{one_of_again, one_of_takes}
use Rattle.yp_xdr.proofs.Lists.{Again, Takes, cond_ok}

-- ---- what was written is read again

pub union_again : (one other : ℤ) (first second : Kind) → Again first → Again second
    → Again (Union one first other second)
union_again one other first second again_first again_second (inl value) at rest fits =
    let number = word (cast_unsigned w32 one) in
    let a = spelling first value in
    let split : (number ++ a) ++ rest ≡ number ++ (a ++ rest) = append_assoc number a rest in
    let is : int_eq one one ≡ true = (Decides-int_eq one one).1 refl in
    let end : at + 4 + length a ≡ at + length (number ++ a) = omega (arith, length-append number a) in
    rw (
      split,
      one_of_again (one ∷ other ∷ []) one at (a ++ rest) fits.0.0 fits.0.1,
      is,
      again_first value (at + 4) rest fits.1,
    )
    (ap (λ (k : ℕ). Ok (inl value, record { at = k; bytes = rest })) end)
union_again one other first second again_first again_second (inr value) at rest fits =
    let number = word (cast_unsigned w32 other) in
    let a = spelling second value in
    let split : (number ++ a) ++ rest ≡ number ++ (a ++ rest) = append_assoc number a rest in
    let end : at + 4 + length a ≡ at + length (number ++ a) = omega (arith, length-append number a) in
    rw (
      split,
      one_of_again (one ∷ other ∷ []) other at (a ++ rest) fits.0.0 fits.0.1,
      fits.1,
      again_second value (at + 4) rest fits.2,
    )
    (ap (λ (k : ℕ). Ok (inr value, record { at = k; bytes = rest })) end)

-- ---- what is read is spelled

-- a number that is listed and isn't the first is the second
second_of : (a b : Bool) → (a || (b || false)) ≡ true → a ≡ false → b ≡ true
second_of true b listed is = absurd cc
second_of false true listed is = refl
second_of false false listed is = absurd cc

begins_first : (one other : ℤ) (first second : Kind) (v : Value first) (old mid new : Remaining)
    → BeginsWith (Enum (one ∷ other ∷ [])) one old mid → BeginsWith first v mid new
    → BeginsWith (Union one first other second) (inl v) old new
begins_first one other first second v old mid new number value = record {
  front = number.front ++ value.front;
  spells = record {
    fits = (number.spells.fits, value.spells.fits);
    spelled =
        rw (number.spells.spelled, value.spells.spelled) refl;
  };
  parts = number.parts ∙ ap (λ (xs : List ℕ). number.front ++ xs) value.parts
      ∙ sym (append_assoc number.front value.front new.bytes);
  place = omega (arith, number.place, value.place, length-append number.front value.front);
}

begins_second : (one other : ℤ) (first second : Kind) (v : Value second) (old mid new : Remaining)
    → int_eq one other ≡ false → BeginsWith (Enum (one ∷ other ∷ [])) other old mid → BeginsWith second v mid new
    → BeginsWith (Union one first other second) (inr v) old new
begins_second one other first second v old mid new differs number value = record {
  front = number.front ++ value.front;
  spells = record {
    fits = (number.spells.fits, differs, value.spells.fits);
    spelled =
        rw (number.spells.spelled, value.spells.spelled) refl;
  };
  parts = number.parts ∙ ap (λ (xs : List ℕ). number.front ++ xs) value.parts
      ∙ sym (append_assoc number.front value.front new.bytes);
  place = omega (arith, number.place, value.place, length-append number.front value.front);
}

pub union_takes : (one other : ℤ) (first second : Kind) → Takes first → Takes second
    → Takes (Union one first other second)
union_takes one other first second takes_first takes_second old new value are_bytes e =
    let V : Type 0 = Value first in
    let W : Type 0 = Value second in
    let allowed : List ℤ = one ∷ other ∷ [] in
    let b = bind_ok (one_of_at allowed old)
    (λ number. cond (int_eq one number.0) (first_at {V = V} {W = W} (reading first) number.1)
    (second_at {V = V} {W = W} (reading second) number.1)) (value, new) e in
    let number = one_of_takes allowed old b.0.1 b.0.0 are_bytes b.1 in
    let rest = IsBytes-behind old.bytes number.front b.0.1.bytes number.parts are_bytes in
    let N : ℤ → Type 0 = λ z. BeginsWith (Enum allowed) z old b.0.1 in
    let P : (V ⊎ W) × Remaining → Type 0 = λ y. BeginsWith (Union one first other second) y.0 old y.1 in
    cond_ok (int_eq one b.0.0) (first_at {V = V} {W = W} (reading first) b.0.1) (second_at {V = V} {W = W} (reading second) b.0.1)
    (value, new) (P (value, new)) b.2
    (λ is h.
    let s = bind_ok (reading first b.0.1) (λ v. Ok (inl v.0, v.1)) (value, new) h in
    let same : one ≡ b.0.0 = (Decides-int_eq one b.0.0).0 is in
    subst P (ok_is (inl s.0.0, s.0.1) (value, new) _ _ refl refl s.2)
    (begins_first one other first second s.0.0 old b.0.1 s.0.1 (subst N (sym same) number)
    (takes_first b.0.1 s.0.1 s.0.0 rest s.1)))
    (λ is h.
    let s = bind_ok (reading second b.0.1) (λ v. Ok (inr v.0, v.1)) (value, new) h in
    let same : other ≡ b.0.0 =
    (Decides-int_eq other b.0.0).0 (second_of (int_eq one b.0.0) (int_eq other b.0.0) number.spells.fits.1 is) in
    let differs : int_eq one other ≡ false = ap (λ (z : ℤ). int_eq one z) same ∙ is in
    subst P (ok_is (inr s.0.0, s.0.1) (value, new) _ _ refl refl s.2)
    (begins_second one other first second s.0.0 old b.0.1 s.0.1 differs (subst N (sym same) number)
    (takes_second b.0.1 s.0.1 s.0.0 rest s.1)))
