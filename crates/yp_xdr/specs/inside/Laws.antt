-- What joins writing and reading, for values of every kind.
use Rattle.std.specs.Prelude.{◌≡◌, ℕ, ◌+◌, ◌≤◌, List, [], ◌++◌, length, Result, Ok, Err}
use Rattle.yp_xdr.specs.declared.fault.XdrFault.{XdrFault}
use Rattle.yp_xdr.specs.declared.fault.NoRoom.{NoRoom}
use Rattle.yp_xdr.specs.Kind.{Kind, ListOf, Value}
use Rattle.yp_xdr.specs.inside.Spelling.{Spells}
use Rattle.yp_xdr.specs.Reading.{Remaining, elements_at, reading}
use Rattle.yp_xdr.specs.inside.Reading.{BeginsWith, BeginsWithNone, IsBytes}
use Rattle.yp_xdr.specs.inside.Writing.{written, Writes, Sets}

-- a value has one spelling
abbrev pub OneSpelling : Type 0
OneSpelling = (kind : Kind) (value : Value kind) (a b : List ℕ) → Spells kind value a → Spells kind value b → a ≡ b

-- no spelling begins another: where one does, both are the same and nothing is behind it
abbrev pub NoSpellingBeginsAnother : Type 0
NoSpellingBeginsAnother =
    (kind : Kind) (v w : Value kind) (a b rest : List ℕ) → Spells kind v a → Spells kind w b → a ++ rest ≡ b
    → (rest ≡ []) × (v ≡ w)

-- what was written is read again, whatever is behind it
abbrev pub WrittenIsReadAgain : Type 0
WrittenIsReadAgain = (kind : Kind) (value : Value kind) (bytes rest : List ℕ) (at : ℕ) → Spells kind value bytes
    → reading kind (record { at = at; bytes = bytes ++ rest })
    ≡ Ok (value, record { at = at + length bytes; bytes = rest })

-- a value that is read is spelled by the bytes that the reader passed
abbrev pub ReadIsSpelled : Type 0
ReadIsSpelled = (kind : Kind) (old new : Remaining) (value : Value kind) → IsBytes old.bytes
    → reading kind old ≡ Ok (value, new) → BeginsWith kind value old new

-- bytes that are refused begin with no spelling
abbrev pub RefusedIsNotSpelled : Type 0
RefusedIsNotSpelled = (kind : Kind) (old : Remaining) (fault : XdrFault) → reading kind old ≡ Err fault
    → BeginsWithNone kind old.bytes

-- a list is read element by element
abbrev pub ListIsReadInTurn : Type 0
ListIsReadInTurn = (kind : Kind) (left : Remaining) → IsBytes left.bytes
    → reading (ListOf kind) left ≡ elements_at (reading kind) (reading (ListOf kind)) left

-- bytes that are written behind others stand there as if both were written at once
abbrev pub WrittenIsJoined : Type 0
WrittenIsJoined = (buf : List ℕ) (at : ℕ) (one other : List ℕ) → at ≤ length buf
    → written (written buf at one) (at + length one) other ≡ written buf at (one ++ other)

-- two writers in turn are one writer, where there is room for both
abbrev pub WritersJoin : Type 0
WritersJoin = (one other : List ℕ) (at mid : ℕ) (result : Result ℕ NoRoom) (old half new : List ℕ)
    → at + length (one ++ other) ≤ length old
    → Writes one at (Ok mid) old half → Writes other mid result half new → Writes (one ++ other) at result old new

-- What two writers that need the room set, one behind the other, is the joined bytes.
abbrev pub SetsJoin : Type 0
SetsJoin = (one other : List ℕ) (at mid end : ℕ) (old half new : List ℕ) → Sets one at mid old half
    → Sets other mid end half new → Sets (one ++ other) at end old new
