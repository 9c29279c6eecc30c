-- What a call does that can't wait: where nothing can go on now, nothing changes.
use Rattle.std.specs.Prelude.{ℕ, List, Option, Some, None, Result, Ok, Err}
use Rattle.std.specs.Io.KnownBytes.{Keeps, ReadConsumes, WriteAppends}

-- some of the next bytes were read, none exactly at the end; or nothing was
abbrev pub TriesToRead : {E : Type 0} → Option (List ℕ) → Option (List ℕ) → Result (Option ℕ) E → List ℕ → Type 0
TriesToRead {E} old new (Ok (Some n)) buf = ReadConsumes {E = E} old new (Ok n) buf
TriesToRead old new (Ok None) buf = Keeps old new
TriesToRead old new (Err e) buf = Keeps old new

-- a front of the piece was taken; or nothing was
abbrev pub TriesToWrite : {E : Type 0} → Option (List ℕ) → Option (List ℕ) → Result (Option ℕ) E → List ℕ → Type 0
TriesToWrite {E} old new (Ok (Some n)) piece = WriteAppends {E = E} old new (Ok n) piece
TriesToWrite old new (Ok None) piece = Keeps old new
TriesToWrite old new (Err e) piece = Keeps old new
