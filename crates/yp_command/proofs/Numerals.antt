-- What a word says as a number.
use Rattle.std.proofs.Common.{◌≡◌, ℕ, ◌^◌, ◌<◌, List, Some, None, refl, sym, ap, subst, ◌∙◌, inl, inr, arith}
use Rattle.std.specs.Prelude.{nat_lt, bytes_eq, decimal, Result, Ok}
use Rattle.std.specs.Str.Parse.{ParsesUnsigned, digits_value}
use Rattle.std.proofs.lemmas.Bool.{cases_Bool, lt-ltb, ltb-true, and_parts}
use Rattle.std.proofs.lemmas.Fmt.{decimal_is_IsNumeral, parse-decimal}
use Rattle.std.proofs.lemmas.Slice.Eq.{bytes_eq-Decides}
use Rattle.yp_command.specs.Forms.{is_number, number}

-- a number's decimal
pub number_yes : {E : Type 0} (word : List ℕ) (r : Result ℕ E) (n : ℕ) → ParsesUnsigned 32 10 word r → r ≡ Ok n
    → decimal n ≡ word → number word ≡ Some n
number_yes {E} word r n parses is e =
    let P : Result ℕ E → Type 0 = λ r. ParsesUnsigned {E = E} 32 10 word r in
    let read : ParsesUnsigned {E = E} 32 10 word (Ok n) = subst P is parses in
    let small : n < 2 ^ 32 = omega (arith, read.0.1, read.1) in
    let value : digits_value 10 word ≡ n =
    ap (digits_value 10) (sym e) ∙ (decimal_is_IsNumeral n (omega (arith, small))).1 in
    rw (value, lt-ltb n (2 ^ 32) small, (bytes_eq-Decides (decimal n) word).1 e) refl

-- and nothing else
pub number_no : {E : Type 0} (word : List ℕ) (r : Result ℕ E) → ParsesUnsigned 32 10 word r
    → ((n : ℕ) → r ≡ Ok n → decimal n ≡ word → ⊥) → number word ≡ None
number_no word r parses never =
    elim (cases_Bool (is_number word)) [
      | inl all ↦
          let n = digits_value 10 word in
          let both = and_parts (nat_lt n (2 ^ 32)) (bytes_eq (decimal n) word) all in
          let small : n < 2 ^ 32 = ltb-true n (2 ^ 32) both.0 in
          let same : decimal n ≡ word = (bytes_eq-Decides (decimal n) word).0 both.1 in
          absurd (never n (parse-decimal 32 n word r small (omega (arith, small)) (sym same) parses) same)
      | inr other ↦ rw other refl
    ]
