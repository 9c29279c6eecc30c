use Rattle.std.proofs.Common.{arith}
use Rattle.yp_transfer.proofs.walk.Rooms.{map_room}
use Rattle.yp_transfer.proofs.walk.walk.Walk.ask_of_map.Goals as goal

pub set_call-requires-clause-room : goal.set_call-requires-clause-room
set_call-requires-clause-room c =
    let asked = c.self.inside.asked in
    rw (c.deref.ensures.value, c.deref-2.ensures.value)
    (omega (arith, c.requires, map_room asked.domain.items asked.map.items c.self.invariant.names.domain c.self.invariant.names.map))
