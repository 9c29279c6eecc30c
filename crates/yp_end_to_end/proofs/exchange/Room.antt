-- A builder without rows has room for those of a version.
use Rattle.std.proofs.Common.{ℕ, ◌≤◌, List, [], length, Result, Ok, Err, refl, arith}
use Rattle.std.specs.Prelude.{IfOk}
use Rattle.yp_messages.specs.declared.stat.YpStat.{YpStat}
use Rattle.yp_version.specs.Rows.{padded}
use Rattle.yp_version.specs.Versions.{MapVersion}
use Rattle.yp_answer.specs.Maps.{row_check}
use Rattle.yp_end_to_end.specs.inside.exchange.Served.{DraftHasRoom}
use Rattle.yp_end_to_end.specs.inside.exchange.Laws.{RoomForVersion}
use Rattle.yp_end_to_end.proofs.exchange.Sound.{IsSound, row_sound}

-- more bytes take no less room
padded_more : (a b : ℕ) → a ≤ b → padded a ≤ padded b
padded_more a b h = omega arith

room_held : (order : ℕ) (master : List ℕ) (held : Result MapVersion YpStat) → IsSound held → IfOk held (λ version. length master ≤ length version.master)
    → DraftHasRoom (record { order = order; master = master; rows = [] }) held
room_held order master (Ok version) is shorter = record { empty = refl; room = omega (arith, is.body, padded_more (length master) (length version.master) shorter) }
room_held order master (Err stat) is shorter = record { empty = refl; room = tt }

pub room_for_version : RoomForVersion
room_for_version maps port domain map order master served shorter = room_held order master (row_check maps port domain map) (row_sound maps port domain map served) shorter
