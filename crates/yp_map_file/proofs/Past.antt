-- The place past a value that was read.
use Rattle.std.proofs.Common.{◌≡◌, ℕ, ◌+◌, List, length, ap, arith}
use Rattle.yp_xdr.specs.Kind.{U32, Opaque}
use Rattle.yp_xdr.specs.Reading.{Remaining}
use Rattle.yp_xdr.specs.inside.Reading.{BeginsWith}
use Rattle.yp_version.specs.Rows.{padded}
use Rattle.yp_map_file.proofs.Again.{length-opaque}

pub word : (n : ℕ) (old new : Remaining) → BeginsWith U32 n old new → new.at ≡ old.at + 4
word n old new begins = let len = ap length begins.spells.spelled in let place = begins.place in omega arith

pub opaque : (max : ℕ) (content : List ℕ) (old new : Remaining) → BeginsWith (Opaque max) content old new
    → new.at ≡ old.at + 4 + padded (length content)
opaque max content old new begins =
    let len = ap length begins.spells.spelled in
    let place = begins.place in
    let size = length-opaque max content in
    omega arith
