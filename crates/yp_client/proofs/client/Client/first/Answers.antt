use Rattle.yp_client.proofs.Calling.{room_map}
use Rattle.yp_client.proofs.client.Client.first.Goals as goal

pub lend_row-requires-clause-room : goal.lend_row-requires-clause-room
lend_row-requires-clause-room g c = room_map c.args.domain.now c.args.map.now c.requires.domain c.requires.map
