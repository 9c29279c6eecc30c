use Rattle.yp_client.proofs.Calling.{room_map}
use Rattle.yp_client.proofs.client.Client.master.Goals as goal

pub lend-requires-clause-room : goal.lend-requires-clause-room
lend-requires-clause-room g c = room_map c.args.domain.now c.args.map.now c.requires.domain c.requires.map
