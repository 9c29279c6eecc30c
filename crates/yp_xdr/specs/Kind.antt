-- The kinds of XDR values, by RFC 4506 section 4, and what a value of each kind is.
use Rattle.std.specs.Prelude.{ℕ, ℤ, Bool, List, Option, ◌⊎◌}

pub data Kind : Type 0 where
  -- section 4.2, an unsigned integer of 32 bits
  U32 : Kind
  -- section 4.1, a signed integer of 32 bits
  I32 : Kind
  -- section 4.4, false or true
  Boolean : Kind
  -- section 4.3, one of the listed numbers
  Enum : (allowed : List ℤ) → Kind
  -- section 4.9, opaque bytes, n of them
  Fixed : (n : ℕ) → Kind
  -- sections 4.10 and 4.11, opaque bytes or a string of any bytes, at most max of them
  Opaque : (max : ℕ) → Kind
  -- section 4.14, one value after the other
  Sequence : (first second : Kind) → Kind
  -- section 4.15, a value of one kind behind the number one, or of another kind behind another number
  Union : (one : ℤ) (first : Kind) (other : ℤ) (second : Kind) → Kind
  -- section 4.19, a value or none
  Optional : (kind : Kind) → Kind
  -- section 4.19, any number of values, as a linked list
  ListOf : (kind : Kind) → Kind

abbrev pub Value : Kind → Type 0
Value U32 = ℕ
Value I32 = ℤ
Value Boolean = Bool
Value (Enum allowed) = ℤ
Value (Fixed n) = List ℕ
Value (Opaque max) = List ℕ
Value (Sequence first second) = Value first × Value second
Value (Union one first other second) = Value first ⊎ Value second
Value (Optional kind) = Option (Value kind)
Value (ListOf kind) = List (Value kind)
