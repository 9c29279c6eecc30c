-- A word that is read is the word that was written, and a word that was written is read again.
use Rattle.std.proofs.Common.{◌≡◌, ℕ, ◌+◌, ◌^◌, ◌<◌, ◌≤◌, Bool, true, false, cond, ltb, List, ◌++◌, length, get_or}
use Rattle.std.proofs.Common.{take, drop, Result, Ok, Err, refl, sym, ap, subst, ◌∙◌, arith, inl, inr}
use Rattle.std.specs.Int.{w32, from_be_bytes}
use Rattle.std.proofs.lemmas.Bool.{cases_lt, ltb-false, le-ltb}
use Rattle.std.proofs.lemmas.List.{take_at, drop_at, take-append-drop, length-append, length-take, get_or-append-add}
use Rattle.std.proofs.lemmas.List.{get_or-take, get_or_past}
use Rattle.std.proofs.lemmas.Nat.{be_bytes_4, from_be_bytes-to_be_bytes_4}
use Rattle.yp_xdr.specs.declared.fault.XdrFault.{XdrFault}
use Rattle.yp_xdr.specs.declared.fault.XdrFault.TheVariants.{Short}
use Rattle.yp_xdr.specs.Kind.{U32}
use Rattle.yp_xdr.specs.Spelling.{word}
use Rattle.yp_xdr.specs.Reading.{Remaining, past, ◌>>=◌, word_at}
use Rattle.yp_xdr.specs.inside.Reading.{BeginsWith, IsBytes}

-- the value of a step that was not refused
pub bind_ok : {A B : Type 0} (step : Result A XdrFault) (next : A → Result B XdrFault) (y : B)
    → (step >>= next) ≡ Ok y → (x : A) × (step ≡ Ok x) × (next x ≡ Ok y)
bind_ok (Ok x) next y e = (x, refl, e)
bind_ok (Err fault) next y e = absurd cc

-- a test that did not refuse
pub guard_ok : {A : Type 0} (b : Bool) (fault : XdrFault) (answer : Result A XdrFault) (y : A)
    → cond b (Err fault) answer ≡ Ok y → (b ≡ false) × (answer ≡ Ok y)
guard_ok true fault answer y e = absurd cc
guard_ok false fault answer y e = (refl, e)

-- the first of a list's bytes are bytes
IsBytes-take : (n : ℕ) (bytes : List ℕ) → IsBytes bytes → IsBytes (take n bytes)
IsBytes-take n bytes h i =
    elim (cases_lt i n) [
      | inl lt ↦ rw (get_or-take n bytes i 0 lt) (h i)
      | inr le ↦ rw (get_or_past (take n bytes) i 0 (omega (arith, length-take n bytes))) (omega arith)
    ]

-- what is behind a front of bytes is bytes
pub IsBytes-behind : (bytes front rest : List ℕ) → bytes ≡ front ++ rest → IsBytes bytes → IsBytes rest
IsBytes-behind bytes front rest parts h i =
    let P : ℕ → Type 0 = λ byte. byte < 256 in
    subst P (ap (λ (xs : List ℕ). get_or xs (length front + i) 0) parts ∙ get_or-append-add front rest i 0)
    (h (length front + i))

-- what is behind the first n bytes is bytes
pub IsBytes-from_drop : (n : ℕ) (bytes rest : List ℕ) → rest ≡ drop n bytes → IsBytes bytes → IsBytes rest
IsBytes-from_drop n bytes rest e =
    IsBytes-behind bytes (take n bytes) rest
    (sym (take-append-drop n bytes) ∙ ap (λ (xs : List ℕ). take n bytes ++ xs) (sym e))

-- two answers of one step are one
pub ok_is : {A : Type 0} (x y : A) (one other : Result A XdrFault) → one ≡ other → one ≡ Ok x → other ≡ Ok y → x ≡ y
ok_is x y one other same e f = cc

-- a word that is read is spelled by the next four bytes
pub word_takes : (old new : Remaining) (n : ℕ) → IsBytes old.bytes → word_at old ≡ Ok (n, new) → BeginsWith U32 n old new
unfolding word_at
word_takes old new n are_bytes e =
    let g = guard_ok (ltb (length old.bytes) 4) (Short old.at) (Ok (from_be_bytes w32 (take 4 old.bytes), past 4 old))
    (n, new) e in
    let long : 4 ≤ length old.bytes = ltb-false _ _ g.0 in
    let answer = ok_is (from_be_bytes w32 (take 4 old.bytes), past 4 old) (n, new) _ _ refl refl g.1 in
    let value : from_be_bytes w32 (take 4 old.bytes) ≡ n = ap (λ (p : ℕ × Remaining). p.0) answer in
    let left : past 4 old ≡ new = ap (λ (p : ℕ × Remaining). p.1) answer in
    let front_bytes = IsBytes-take 4 old.bytes are_bytes in
    let front : word n ≡ take 4 old.bytes =
    be_bytes_4 (take 4 old.bytes) n (omega (arith, length-take 4 old.bytes)) front_bytes (sym value) in
    record {
      front = word n;
      spells = record {
        fits =
            rw (← value) (omega (arith, front_bytes 0, front_bytes 1, front_bytes 2, front_bytes 3));
        spelled = refl;
      };
      parts = sym (take-append-drop 4 old.bytes) ∙ ap (λ (xs : List ℕ). xs ++ drop 4 old.bytes) (sym front)
          ∙ ap (λ (u : Remaining). word n ++ u.bytes) left;
      place = ap (λ (u : Remaining). u.at) (sym left);
    }

-- a word is what its four bytes say
word_of_four : (front rest : List ℕ) (at : ℕ) → length front ≡ 4
    → word_at (record { at = at; bytes = front ++ rest })
    ≡ Ok (from_be_bytes w32 front, record { at = at + 4; bytes = rest })
unfolding word_at
word_of_four front rest at len =
    let long : ltb (length (front ++ rest)) 4 ≡ false = le-ltb _ _ (omega (arith, length-append front rest)) in
    rw (long, take_at front rest 4 len, drop_at front rest 4 len) refl

-- a word that was written is read again
pub word_again : (n at : ℕ) (rest : List ℕ) → n < 2 ^ 32
    → word_at (record { at = at; bytes = word n ++ rest }) ≡ Ok (n, record { at = at + 4; bytes = rest })
word_again n at rest lt =
    word_of_four (word n) rest at refl
    ∙ ap (λ (k : ℕ). Ok (k, record { at = at + 4; bytes = rest })) (from_be_bytes-to_be_bytes_4 n lt)
