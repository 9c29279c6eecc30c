-- A read of a whole source, piece by piece, and where it stops.
use Rattle.std.specs.Prelude.{◌≡◌, ℕ, ◌+◌, ◌<◌, List, ◌++◌, length, Option}
use Rattle.std.specs.Io.KnownBytes.{Consumes, IsAtEnd}
use Rattle.yp_io.specs.declared.whole.Unread.{Unread}
use Rattle.yp_io.specs.declared.whole.Unread.TheVariants.{TooLong}

-- This many bytes were read and stand behind those that were there. No byte was read only where the input is at its
-- end.
pub record ReadsMore (left now : Option (List ℕ)) (old new : List ℕ) (count : ℕ) : Type 0 where
  pub piece : List ℕ
  pub taken : Consumes left now piece
  pub added : new ≡ old ++ piece
  pub counted : length piece ≡ count
  pub end : count ≡ 0 → IsAtEnd now

-- bytes were read behind so many others, and then no more; they are over the limit where that is the cause
pub record ReadingStopped (most : ℕ) (left now : Option (List ℕ)) (before : ℕ) (why : Unread) : Type 0 where
  pub piece : List ℕ
  pub taken : Consumes left now piece
  pub over : why ≡ TooLong → most < before + length piece
