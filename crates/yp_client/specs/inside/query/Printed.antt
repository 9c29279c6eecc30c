-- What a sink took of a text that goes out through a buffer.
use Rattle.std.specs.Prelude.{◌≡◌, ℕ, List, ◌++◌, Option, Result, Ok, Err}
use Rattle.std.specs.Io.KnownBytes.{Appends}
use Rattle.yp_io.specs.Streams.{AppendsFront}

-- A piece was put into a buffer in front of an output. The output took bytes from the front of what had waited and the
-- piece, and the rest waits now. Where the output failed, it took some front of both.
abbrev pub Puts : {E : Type 0} → List ℕ → Result (Unit {0}) E → List ℕ → List ℕ → Option (List ℕ) → Option (List ℕ)
    → Type 0
Puts piece (Ok done) waited waits before after =
    (out : List ℕ) × Appends before after out × (waited ++ piece ≡ out ++ waits)
Puts piece (Err fault) waited waits before after = AppendsFront (waited ++ piece) before after
