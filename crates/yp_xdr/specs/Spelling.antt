-- How each value is spelled in bytes, by RFC 4506 sections 3 and 4.
use Rattle.std.specs.Prelude.{ℕ, ◌-◌, ◌%◌, ℤ, Bool, true, false, List, ◌++◌, length}
use Rattle.std.specs.Prelude.{replicate, flat_map, Option, Some, None, ◌⊎◌}
use Rattle.std.proofs.Common.{inl, inr}
use Rattle.std.specs.List.{list_any}
use Rattle.std.specs.Ordering.{int_eq}
use Rattle.std.specs.Int.{w32, to_be_bytes, cast_unsigned}
use Rattle.yp_xdr.specs.Kind.{Kind, U32, I32, Boolean, Enum, Fixed, Opaque, Sequence, Union, Optional, ListOf, Value}

-- four bytes, the highest first (section 4.2)
abbrev pub word : ℕ → List ℕ
word n = to_be_bytes w32 n

-- FALSE is 0, and TRUE is 1 (section 4.4)
abbrev pub truth : Bool → ℕ
truth false = 0
truth true = 1

-- it is listed (section 4.3)
abbrev pub is_one_of : List ℤ → ℤ → Bool
is_one_of allowed z = list_any (λ y. int_eq y z) allowed

-- how many bytes follow n bytes, up to a multiple of four
abbrev pub padding_len : ℕ → ℕ
padding_len n = (4 - n % 4) % 4

-- the zero bytes that follow n bytes
abbrev pub padding : ℕ → List ℕ
padding n = replicate (padding_len n) 0

-- opaque bytes, padded (section 4.9)
unfoldable pub fixed : List ℕ → List ℕ
fixed content = content ++ padding (length content)

-- opaque bytes behind their length, and padded (section 4.10)
unfoldable pub opaque : List ℕ → List ℕ
opaque content = word (length content) ++ fixed content

-- TRUE and a value, by the spelling of such values (section 4.19)
abbrev pub present : {V : Type 0} → (V → List ℕ) → V → List ℕ
present spell value = word (truth true) ++ spell value

-- a value behind TRUE, or FALSE
abbrev pub optional : {V : Type 0} → (V → List ℕ) → Option V → List ℕ
optional spell None = word (truth false)
optional spell (Some value) = present spell value

-- each value behind TRUE, and then FALSE
abbrev pub list_of : {V : Type 0} → (V → List ℕ) → List V → List ℕ
list_of spell values = flat_map (present spell) values ++ word (truth false)

-- a value of the first kind behind one number, or of the second behind the other (section 4.15)
abbrev pub union : {V W : Type 0} → (one other : ℤ) → (V → List ℕ) → (W → List ℕ) → V ⊎ W → List ℕ
union one other spell_first spell_second (inl value) = word (cast_unsigned w32 one) ++ spell_first value
union one other spell_first spell_second (inr value) = word (cast_unsigned w32 other) ++ spell_second value

-- the bytes of a value
abbrev pub spelling : (kind : Kind) → Value kind → List ℕ
spelling U32 n = word n
spelling I32 z = word (cast_unsigned w32 z)
spelling Boolean b = word (truth b)
spelling (Enum allowed) z = word (cast_unsigned w32 z)
spelling (Fixed n) content = fixed content
spelling (Opaque max) content = opaque content
spelling (Sequence first second) value = spelling first value.0 ++ spelling second value.1
spelling (Union one first other second) value = union one other (spelling first) (spelling second) value
spelling (Optional kind) value = optional (spelling kind) value
spelling (ListOf kind) values = list_of (spelling kind) values
