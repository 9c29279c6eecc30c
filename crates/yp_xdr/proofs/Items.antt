-- Booleans, signed numbers, numbers of an enum and fixed bytes: what is read was spelled, and what was spelled is read
-- again.
use Rattle.std.proofs.Common.{◌≡◌, ℕ, zero, suc, ◌+◌, ◌^◌, ◌<◌, Bool, true, false, cond, eqb, ℤ, List, ◌++◌, length}
use Rattle.std.proofs.Common.{Result, Ok, Err, refl, sym, ap, subst, ◌∙◌, arith, lit<}
use Rattle.std.specs.Prelude.{FitsSigned, IsTrue}
use Rattle.std.specs.Int.{w32, cast_signed, cast_unsigned}
use Rattle.std.proofs.lemmas.Bool.{cond-false, ne_eqb, lt-ltb}
use Rattle.std.proofs.lemmas.Int.{ints, to_z-of_z, of_z-to_z}
use Rattle.std.proofs.lemmas.List.{length-append, length-replicate}
use borrow.Author.Gap.{read_sfits}
use Rattle.yp_xdr.specs.declared.fault.XdrFault.{XdrFault}
use Rattle.yp_xdr.specs.declared.fault.XdrFault.TheVariants.{Short, BadBool, BadEnum}
use Rattle.yp_xdr.specs.Kind.{U32, I32, Boolean, Enum, Fixed}
use Rattle.yp_xdr.specs.Spelling.{word, truth, is_one_of, padding_len, padding, fixed}
use Rattle.yp_xdr.specs.Reading.{Remaining, word_at, bool_at, signed_at, one_of_at, content_at}
use Rattle.yp_xdr.specs.inside.Reading.{BeginsWith, IsBytes}
use Rattle.yp_xdr.proofs.Words.{bind_ok, ok_is, word_takes, word_again}
use Rattle.yp_xdr.proofs.Content.{content_takes, content_again}

-- ---- booleans

-- a boolean that was written is read again
pub bool_again : (b : Bool) (at : ℕ) (rest : List ℕ)
    → bool_at (record { at = at; bytes = word (truth b) ++ rest }) ≡ Ok (b, record { at = at + 4; bytes = rest })
unfolding bool_at
bool_again false at rest = rw (word_again 0 at rest (lit< tt)) refl
bool_again true at rest = rw (word_again 1 at rest (lit< tt)) refl

-- a refusal is no answer
err_not_ok : {A : Type 0} (fault : XdrFault) (y : A) → Err fault ≡ Ok y → ⊥
err_not_ok fault y e = absurd cc

-- where no word is whole, no boolean is
pub bool_short : (left : Remaining) → length left.bytes < 4 → bool_at left ≡ Err (Short left.at)
unfolding bool_at word_at
bool_short left short = rw (lt-ltb _ _ short) refl

-- a word that is a boolean is the word of that boolean
bool_of : (n : ℕ) (left : Remaining) (fault : XdrFault) (b : Bool) (new : Remaining)
    → cond {A = Result (Bool × Remaining) XdrFault} (eqb n 0) (Ok (false, left))
    (cond (eqb n 1) (Ok (true, left)) (Err fault)) ≡ Ok (b, new) → (n ≡ truth b) × (left ≡ new)
bool_of zero left fault b new e =
    let answer = ok_is (false, left) (b, new) _ _ e refl refl in
    (ap (λ (y : Bool × Remaining). truth y.0) answer, ap (λ (y : Bool × Remaining). y.1) answer)
bool_of (suc zero) left fault b new e =
    let answer = ok_is (true, left) (b, new) _ _ e refl refl in
    (ap (λ (y : Bool × Remaining). truth y.0) answer, ap (λ (y : Bool × Remaining). y.1) answer)
bool_of (suc (suc n)) left fault b new e =
    let not_zero : eqb (suc (suc n)) 0 ≡ false = ne_eqb (suc (suc n)) 0 (omega arith) in
    let not_one : eqb (suc (suc n)) 1 ≡ false = ne_eqb (suc (suc n)) 1 (omega arith) in
    absurd (err_not_ok fault (b, new) (sym (cond-false _ _ _ not_zero ∙ cond-false _ _ _ not_one) ∙ e))

-- a boolean that is read is spelled
pub bool_takes : (old new : Remaining) (b : Bool) → IsBytes old.bytes → bool_at old ≡ Ok (b, new)
    → BeginsWith Boolean b old new
unfolding bool_at
bool_takes old new b are_bytes e =
    let w = bind_ok (word_at old)
    (λ word. cond (eqb word.0 0) (Ok (false, word.1))
    (cond (eqb word.0 1) (Ok (true, word.1)) (Err (BadBool old.at)))) (b, new) e in
    let is = bool_of w.0.0 w.0.1 (BadBool old.at) b new w.2 in
    let one = word_takes old w.0.1 w.0.0 are_bytes w.1 in
    record {
      front = one.front;
      spells = record { fits = tt; spelled = one.spells.spelled ∙ ap word is.0 };
      parts = one.parts ∙ ap (λ (u : Remaining). one.front ++ u.bytes) is.1;
      place = ap (λ (u : Remaining). u.at) (sym is.1) ∙ one.place;
    }

-- ---- signed numbers

-- a signed number's word is below 2 ^ 32
cast_unsigned_below : (z : ℤ) → FitsSigned w32 z → cast_unsigned w32 z < 2 ^ 32
cast_unsigned_below z fits = omega (arith, ints)

-- a signed number that was written is read again
pub signed_again : (z : ℤ) (at : ℕ) (rest : List ℕ) → FitsSigned w32 z
    → signed_at (record { at = at; bytes = word (cast_unsigned w32 z) ++ rest })
    ≡ Ok (z, record { at = at + 4; bytes = rest })
signed_again z at rest fits =
    let back : cast_signed w32 (cast_unsigned w32 z) ≡ z = to_z-of_z w32 z fits in
    rw (word_again (cast_unsigned w32 z) at rest (cast_unsigned_below z fits))
    (ap (λ (v : ℤ). Ok (v, record { at = at + 4; bytes = rest })) back)

-- a word spells the signed number that it is
begins_signed : (n : ℕ) (old new : Remaining) → BeginsWith U32 n old new → BeginsWith I32 (cast_signed w32 n) old new
begins_signed n old new one =
    let below : n < 2 ^ 32 = one.spells.fits in
    let back : cast_unsigned w32 (cast_signed w32 n) ≡ n = of_z-to_z w32 n below in
    record {
      front = one.front;
      spells = record { fits = read_sfits w32 n; spelled = one.spells.spelled ∙ ap word (sym back) };
      parts = one.parts;
      place = one.place;
    }

-- a signed number that is read is spelled
pub signed_takes : (old new : Remaining) (z : ℤ) → IsBytes old.bytes → signed_at old ≡ Ok (z, new)
    → BeginsWith I32 z old new
signed_takes old new z are_bytes e =
    let b = bind_ok (word_at old) (λ word. Ok (cast_signed w32 word.0, word.1)) (z, new) e in
    let P : ℤ × Remaining → Type 0 = λ y. BeginsWith I32 y.0 old y.1 in
    subst P (ok_is _ (z, new) _ _ refl refl b.2)
    (begins_signed b.0.0 old b.0.1 (word_takes old b.0.1 b.0.0 are_bytes b.1))

-- ---- numbers of an enum

-- a listed number that was written is read again
pub one_of_again : (allowed : List ℤ) (z : ℤ) (at : ℕ) (rest : List ℕ) → FitsSigned w32 z → IsTrue (is_one_of allowed z)
    → one_of_at allowed (record { at = at; bytes = word (cast_unsigned w32 z) ++ rest })
    ≡ Ok (z, record { at = at + 4; bytes = rest })
unfolding one_of_at
one_of_again allowed z at rest fits listed = rw (signed_again z at rest fits, listed) refl

-- a test that was passed
guard_true : {A : Type 0} (b : Bool) (fault : XdrFault) (answer : Result A XdrFault) (y : A)
    → cond b answer (Err fault) ≡ Ok y → (b ≡ true) × (answer ≡ Ok y)
guard_true true fault answer y e = (refl, e)
guard_true false fault answer y e = absurd cc

-- a number of an enum that is read is listed, and spelled
pub one_of_takes : (allowed : List ℤ) (old new : Remaining) (z : ℤ) → IsBytes old.bytes
    → one_of_at allowed old ≡ Ok (z, new) → BeginsWith (Enum allowed) z old new
unfolding one_of_at
one_of_takes allowed old new z are_bytes e =
    let b = bind_ok (signed_at old) (λ number. cond (is_one_of allowed number.0) (Ok number) (Err (BadEnum old.at)))
    (z, new) e in
    let g = guard_true (is_one_of allowed b.0.0) (BadEnum old.at) (Ok b.0) (z, new) b.2 in
    let one = signed_takes old b.0.1 b.0.0 are_bytes b.1 in
    let P : ℤ × Remaining → Type 0 = λ y. BeginsWith (Enum allowed) y.0 old y.1 in
    subst P (ok_is b.0 (z, new) _ _ refl refl g.1) (record {
      front = one.front;
      spells = record { fits = (one.spells.fits, g.0); spelled = one.spells.spelled };
      parts = one.parts;
      place = one.place;
    })

-- ---- fixed bytes

-- the bytes and their padding
pub length-fixed : (content : List ℕ) → length (fixed content) ≡ length content + padding_len (length content)
unfolding fixed
length-fixed content = length-append content (padding (length content))
    ∙ ap (λ (k : ℕ). length content + k) (length-replicate (padding_len (length content)) 0)

-- fixed bytes that were written are read again
pub fixed_again : (start n at : ℕ) (content rest : List ℕ) → length content ≡ n
    → content_at start n (record { at = at; bytes = fixed content ++ rest })
    ≡ Ok (content, record { at = at + length (fixed content); bytes = rest })
unfolding fixed
fixed_again start n at content rest len =
    let P : ℕ → Type 0 = λ k. content_at start k (record { at = at; bytes = fixed content ++ rest })
    ≡ Ok (content, record { at = at + length (fixed content); bytes = rest }) in
    subst P len (content_again start at content rest
    ∙ ap (λ (k : ℕ). Ok (content, record { at = at + k; bytes = rest })) (sym (length-fixed content)))

-- fixed bytes that are read are spelled
pub fixed_takes : (start n : ℕ) (old new : Remaining) (content : List ℕ) → content_at start n old ≡ Ok (content, new)
    → BeginsWith (Fixed n) content old new
unfolding fixed
fixed_takes start n old new content e =
    let taken = content_takes start n old new content e in
    let P : ℕ → Type 0 = λ k. old.bytes ≡ content ++ padding k ++ new.bytes in
    record {
      front = fixed content;
      spells = record { fits = taken.len; spelled = refl };
      parts = subst P (sym taken.len) taken.parts;
      place = taken.place ∙ ap (λ (k : ℕ). old.at + (k + padding_len k)) (sym taken.len)
          ∙ ap (λ (k : ℕ). old.at + k) (sym (length-fixed content));
    }
