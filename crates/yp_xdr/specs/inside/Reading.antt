-- A reader against the kinds: what it answers, and which bytes spell a value.
use Rattle.std.specs.Prelude.{◌≡◌, ℕ, ◌+◌, ◌<◌, List, ◌++◌, length}
use Rattle.std.specs.Prelude.{Result, Ok, Err}
use Rattle.std.specs.Prelude.{slice_index}
use Rattle.yp_xdr.specs.declared.fault.XdrFault.{XdrFault}
use Rattle.yp_xdr.specs.Kind.{Kind, Value}
use Rattle.yp_xdr.specs.inside.Spelling.{Spells}
use Rattle.yp_xdr.specs.Reading.{Remaining, reading}

-- the place behind the last byte
abbrev pub end_of : Remaining → ℕ
end_of left = left.at + length left.bytes

-- The answer of a reader, seen by view, is what is expected: it has moved to what is left, or not moved at all.
abbrev pub ReadsAs : {X V : Type 0} → Result (V × Remaining) XdrFault → (X → V) → Result X XdrFault → Remaining
    → Remaining
    → Type 0
ReadsAs expected view (Ok x) old new = expected ≡ Ok (view x, new)
ReadsAs expected view (Err fault) old new = (expected ≡ Err fault) × (new ≡ old)

-- A reader of the kind answers what reading gives.
abbrev pub Reads : {X : Type 0} (kind : Kind) → (X → Value kind) → Result X XdrFault → Remaining → Remaining → Type 0
Reads kind view result old new = ReadsAs (reading kind old) view result old new

-- the next bytes spell the value, and the new rest is what is left behind them
pub record BeginsWith (kind : Kind) (value : Value kind) (old new : Remaining) : Type 0 where
  pub front : List ℕ
  pub spells : Spells kind value front
  pub parts : old.bytes ≡ front ++ new.bytes
  pub place : new.at ≡ old.at + length front

-- no value of the kind is spelled by a front of the bytes
abbrev pub BeginsWithNone : Kind → List ℕ → Type 0
BeginsWithNone kind bytes =
    (value : Value kind) (front rest : List ℕ) → Spells kind value front → bytes ≡ front ++ rest → ⊥

-- each is a byte
abbrev pub IsBytes : List ℕ → Type 0
IsBytes bytes = (i : ℕ) → slice_index bytes i < 256
