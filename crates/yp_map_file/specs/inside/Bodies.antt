-- What a reader of a body finds, and what it passes over.
use Rattle.std.specs.Prelude.{◌≡◌, ◌+◌, length}
use Rattle.std.specs.Prelude.{Result, Ok, Err}
use Rattle.yp_xdr.specs.Reading.{Remaining}
use Rattle.yp_map_file.specs.declared.wrong.Wrong.{Wrong}

-- a reader of the code answers what is expected, and has then moved to what is left
abbrev pub Finds : {X V : Type 0} → Result (V × Remaining) Wrong → (X → V) → Result X Wrong → Remaining → Type 0
Finds expected view (Ok x) new = expected ≡ Ok (view x, new)
Finds expected view (Err wrong) new = expected ≡ Err wrong

-- a reader passed some of the bytes that it had left
abbrev pub Passes : Remaining → Remaining → Type 0
Passes old new = new.at + length new.bytes ≡ old.at + length old.bytes
