-- What a reader answers: the value that the next bytes spell, by RFC 4506 sections 3 and 4, or the fault of the first
-- item that is refused.
use Rattle.std.specs.Prelude.{ℕ, ℤ, zero, suc, ◌+◌, Bool, true, false, List, [], ◌∷◌, length, take}
use Rattle.std.specs.Prelude.{drop, Option, Some, None, Result, Ok, Err, not, nat_lt, ◌==◌, if◌then◌else◌, position}
use Rattle.std.specs.Prelude.{◌⊎◌}
use Rattle.std.specs.Ordering.{int_eq}
use Rattle.std.proofs.Common.{inl, inr}
use Rattle.std.specs.Int.{w32, from_be_bytes, cast_signed}
use Rattle.yp_xdr.specs.declared.fault.XdrFault.{XdrFault}
use Rattle.yp_xdr.specs.declared.fault.XdrFault.TheVariants.{Short, TooLong, Pad, BadBool, BadEnum}
use Rattle.yp_xdr.specs.Kind.{Kind, U32, I32, Boolean, Enum, Fixed, Opaque, Sequence, Union, Optional, ListOf, Value}
use Rattle.yp_xdr.specs.Spelling.{is_one_of, padding_len}

-- what is left to read: the place of its first byte, and its bytes
pub record Remaining : Type 0 where
  pub at : ℕ
  pub bytes : List ℕ

-- what is left n bytes further on
abbrev pub past : ℕ → Remaining → Remaining
past n left = record { at = left.at + n; bytes = drop n left.bytes }

infixl 10 ◌>>=◌
abbrev pub ◌>>=◌ : {A B : Type 0} → Result A XdrFault → (A → Result B XdrFault) → Result B XdrFault
(Ok x) >>= f = f x
(Err fault) >>= f = Err fault

-- a word of four bytes
unfoldable pub word_at : Remaining → Result (ℕ × Remaining) XdrFault
word_at left =
    if nat_lt (length left.bytes) 4
    then Err (Short left.at)
    else Ok (from_be_bytes w32 (take 4 left.bytes), past 4 left)

-- FALSE or TRUE
unfoldable pub bool_at : Remaining → Result (Bool × Remaining) XdrFault
bool_at left = do
  word ← word_at left
  if word.0 == 0 then Ok (false, word.1) else if word.0 == 1 then Ok (true, word.1) else Err (BadBool left.at)

-- a signed number
abbrev pub signed_at : Remaining → Result (ℤ × Remaining) XdrFault
signed_at left = do
  word ← word_at left
  Ok (cast_signed w32 word.0, word.1)

-- a signed number that is listed
unfoldable pub one_of_at : List ℤ → Remaining → Result (ℤ × Remaining) XdrFault
one_of_at allowed left = do
  number ← signed_at left
  if is_one_of allowed number.0 then Ok number else Err (BadEnum left.at)

-- the place of the first byte that isn't zero
abbrev pub first_nonzero : List ℕ → Option ℕ
first_nonzero bytes = position (λ byte. not (byte == 0)) bytes

-- n bytes and their padding, where the place of a padding byte that isn't zero is known
abbrev pub padded : ℕ → Remaining → Option ℕ → Result (List ℕ × Remaining) XdrFault
padded n left None = Ok (take n left.bytes, past (n + padding_len n) left)
padded n left (Some place) = Err (Pad (left.at + n + place))

-- n bytes and their padding, of an item that began at start
unfoldable pub content_at : ℕ → ℕ → Remaining → Result (List ℕ × Remaining) XdrFault
content_at start n left =
    if nat_lt (length left.bytes) (n + padding_len n)
    then Err (Short start)
    else padded n left (first_nonzero (take (padding_len n) (drop n left.bytes)))

-- opaque bytes behind their length
unfoldable pub opaque_at : ℕ → Remaining → Result (List ℕ × Remaining) XdrFault
opaque_at max left = do
  len ← word_at left
  if nat_lt max len.0 then Err (TooLong left.at len.0) else content_at left.at len.0 len.1

-- a value of the first kind of two
abbrev pub first_at : {V W : Type 0} → (Remaining → Result (V × Remaining) XdrFault) → Remaining
    → Result ((V ⊎ W) × Remaining) XdrFault
first_at read left = do
  value ← read left
  Ok (inl value.0, value.1)

-- a value of the second kind of two
abbrev pub second_at : {V W : Type 0} → (Remaining → Result (W × Remaining) XdrFault) → Remaining
    → Result ((V ⊎ W) × Remaining) XdrFault
second_at read left = do
  value ← read left
  Ok (inr value.0, value.1)

-- a value behind one of two numbers, of the kind that the number says
abbrev pub union_at : {V W : Type 0} → (one other : ℤ) → (Remaining → Result (V × Remaining) XdrFault)
    → (Remaining → Result (W × Remaining) XdrFault) → Remaining → Result ((V ⊎ W) × Remaining) XdrFault
union_at one other read_first read_second left = do
  number ← one_of_at (one ∷ other ∷ []) left
  if int_eq one number.0 then first_at read_first number.1 else second_at read_second number.1

-- a value that is there
abbrev pub some_at : {V : Type 0} → (Remaining → Result (V × Remaining) XdrFault) → Remaining
    → Result (Option V × Remaining) XdrFault
some_at read left = do
  one ← read left
  Ok (Some one.0, one.1)

-- a value behind TRUE, or FALSE
abbrev pub optional_at : {V : Type 0} → (Remaining → Result (V × Remaining) XdrFault) → Remaining
    → Result (Option V × Remaining) XdrFault
optional_at read left = do
  more ← bool_at left
  if more.0 then some_at read more.1 else Ok (None, more.1)

-- a value, and the others behind it
abbrev pub cons_at : {V : Type 0} → (Remaining → Result (V × Remaining) XdrFault)
    → (Remaining → Result (List V × Remaining) XdrFault) → Remaining → Result (List V × Remaining) XdrFault
cons_at read read_others left = do
  one ← read left
  others ← read_others one.1
  Ok (one.0 ∷ others.0, others.1)

-- a value behind TRUE and the others behind it, or FALSE
abbrev pub elements_at : {V : Type 0} → (Remaining → Result (V × Remaining) XdrFault)
    → (Remaining → Result (List V × Remaining) XdrFault) → Remaining → Result (List V × Remaining) XdrFault
elements_at read read_others left = do
  more ← bool_at left
  if more.0 then cons_at read read_others more.1 else Ok ([], more.1)

-- Each value behind TRUE, and then FALSE. There are at most n values. As many as there are bytes are enough, since each
-- takes some.
abbrev pub list_at : {V : Type 0} → (Remaining → Result (V × Remaining) XdrFault) → ℕ → Remaining
    → Result (List V × Remaining) XdrFault
list_at read zero left = Err (Short left.at)
list_at read (suc n) left = elements_at read (list_at read n) left

-- the value that the next bytes spell, and what is left behind it; or the fault of the first item that is refused
abbrev pub reading : (kind : Kind) → Remaining → Result (Value kind × Remaining) XdrFault
reading U32 left = word_at left
reading I32 left = signed_at left
reading Boolean left = bool_at left
reading (Enum allowed) left = one_of_at allowed left
reading (Fixed n) left = content_at left.at n left
reading (Opaque max) left = opaque_at max left
reading (Sequence first second) left = do
  one ← reading first left
  other ← reading second one.1
  Ok ((one.0, other.0), other.1)
reading (Union one first other second) left = union_at one other (reading first) (reading second) left
reading (Optional kind) left = optional_at (reading kind) left
reading (ListOf kind) left = list_at (reading kind) (length left.bytes) left
