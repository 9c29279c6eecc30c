-- What the code reads of a body.
use Rattle.std.specs.Prelude.{◌≡◌, ℕ, List, Vec, Result, Ok, Err, ⊤}
use Rattle.std.specs.declared.alloc.Global.{Global}
use Rattle.yp_xdr.specs.Reading.{Remaining}
use Rattle.yp_version.specs.Rows.{Row}
use Rattle.yp_version.specs.inside.Slabs.{places_from}
use Rattle.yp_version.specs.inside.Stored.{row_places}
use Rattle.yp_version.specs.Versions.{MapVersion}
use Rattle.yp_map_file.specs.declared.read.FileFront.{FileFront}
use Rattle.yp_map_file.specs.declared.read.BodyParts.{BodyParts}
use Rattle.yp_map_file.specs.declared.wrong.BodyFault.{BodyFault}
use Rattle.yp_map_file.specs.declared.wrong.BodyFault.TheVariants.{Wrong, NoMemory}
use Rattle.yp_map_file.specs.declared.wrong.Wrong.{Wrong as IsWrong}
use Rattle.yp_map_file.specs.Bodies.{BodyHead}

abbrev pub head_view : FileFront → BodyHead
head_view front = record { secure = front.secure; order = front.order; master = front.master.now; count = front.count }

-- the rows that are expected were read, and these are the places of each, of which the first stands at start
abbrev pub ReadsRows : Result (List Row × Remaining) IsWrong → ℕ → Result (Vec ℕ Global) BodyFault → Remaining → Type 0
ReadsRows expected start (Ok places) left = (rows : List Row) × (expected ≡ Ok (rows, left))
    × (places.items ≡ places_from start rows)
ReadsRows expected start (Err (Wrong wrong)) left = expected ≡ Err wrong
ReadsRows expected start (Err NoMemory) left = ⊤

-- the version of these rows, of which the rest was found
abbrev pub found_of : BodyParts → List Row → MapVersion
found_of found rows =
    record { order = found.order; master = found.master.items; secure = found.secure; rows = rows }

-- the version that is expected was found, and the places of its rows, unless memory ran out
abbrev pub FindsBody : Result MapVersion IsWrong → Result BodyParts BodyFault → Type 0
FindsBody expected (Ok found) = (rows : List Row) × (expected ≡ Ok (found_of found rows))
    × (found.places.items ≡ row_places (found_of found rows))
FindsBody expected (Err (Wrong wrong)) = expected ≡ Err wrong
FindsBody expected (Err NoMemory) = ⊤

-- the version that is expected was read, unless memory ran out
abbrev pub ReadsBody : Result MapVersion IsWrong → Result MapVersion BodyFault → Type 0
ReadsBody expected (Ok version) = expected ≡ Ok version
ReadsBody expected (Err (Wrong wrong)) = expected ≡ Err wrong
ReadsBody expected (Err NoMemory) = ⊤
