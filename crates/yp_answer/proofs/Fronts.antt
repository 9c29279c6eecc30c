-- The front of a buffer behind which bytes were set.
use Rattle.std.proofs.Common.{◌≡◌, ℕ, ◌+◌, ◌≤◌, List, ◌++◌, length, take, drop, ap, ◌∙◌, arith}
use Rattle.std.proofs.lemmas.List.{length-append, length-take, take_at}
use Rattle.yp_xdr.specs.inside.Writing.{Sets}

pub front_set : (bytes old new : List ℕ) (at end : ℕ) → Sets bytes at end old new → at ≤ length old → take end new ≡ take at old ++ bytes
front_set bytes old new at end h within =
    ap (take end) h.bytes_there
    ∙ take_at (take at old ++ bytes) (drop (at + length bytes) old) end (omega (arith, h.place, length-append (take at old) bytes, length-take at old))
