use Rattle.std.proofs.Common.{arith}
use Rattle.yp_client.proofs.Calling.{room_map}
use Rattle.yp_client.proofs.connection.Connection.fetch.Goals as goal

pub ask-requires-clause-room : goal.ask-requires-clause-room
ask-requires-clause-room g c =
    let room = room_map c.args.asked.now.domain.now c.args.asked.now.map.now c.requires.within.domain
    c.requires.within.map in
    omega (arith, c.requires.room, room)
