-- Which values a kind has, and that bytes spell one.
use Rattle.std.specs.Prelude.{◌≡◌, ℕ, ◌^◌, ◌<◌, ◌≤◌, ℤ, false, IsTrue, List, length}
use Rattle.std.specs.Prelude.{All, IfSome, FitsSigned, [], ◌∷◌, ◌⊎◌}
use Rattle.std.proofs.Common.{inl, inr}
use Rattle.std.specs.Ordering.{int_eq}
use Rattle.std.specs.Int.{w32}
use Rattle.yp_xdr.specs.Kind.{Kind, U32, I32, Boolean, Enum, Fixed, Opaque, Sequence, Union, Optional, ListOf, Value}
use Rattle.yp_xdr.specs.Spelling.{is_one_of, spelling}

-- a number is one of the two
abbrev pub IsOneOfTwo : (one other number : ℤ) → Type 0
IsOneOfTwo one other number = FitsSigned w32 number × IsTrue (is_one_of (one ∷ other ∷ []) number)

-- the value of the first kind fits, or the one of the second, whose number isn't that of the first
abbrev pub FitsUnion : {V W : Type 0} → (one other : ℤ) → (V → Type 0) → (W → Type 0) → V ⊎ W → Type 0
FitsUnion one other FitsFirst FitsSecond (inl value) = IsOneOfTwo one other one × FitsFirst value
FitsUnion one other FitsFirst FitsSecond (inr value) =
    IsOneOfTwo one other other × (int_eq one other ≡ false) × FitsSecond value

-- the values that a kind has
abbrev pub Fits : (kind : Kind) → Value kind → Type 0
Fits U32 n = n < 2 ^ 32
Fits I32 z = FitsSigned w32 z
Fits Boolean b = Unit {0}
Fits (Enum allowed) z = FitsSigned w32 z × IsTrue (is_one_of allowed z)
Fits (Fixed n) content = length content ≡ n
Fits (Opaque max) content = (length content ≤ max) × (length content < 2 ^ 32)
Fits (Sequence first second) value = Fits first value.0 × Fits second value.1
Fits (Union one first other second) value = FitsUnion one other (Fits first) (Fits second) value
Fits (Optional kind) value = IfSome value (Fits kind)
Fits (ListOf kind) values = All (Fits kind) values

-- these bytes are the spelling of a value that the kind has
pub record Spells (kind : Kind) (value : Value kind) (bytes : List ℕ) : Type 0 where
  pub fits : Fits kind value
  pub spelled : bytes ≡ spelling kind value
