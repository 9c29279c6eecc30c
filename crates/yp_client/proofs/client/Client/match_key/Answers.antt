use Rattle.yp_client.proofs.Calling.{room_key}
use Rattle.yp_client.proofs.client.Client.match_key.Goals as goal

pub lend-requires-clause-room : goal.lend-requires-clause-room
lend-requires-clause-room g c =
    room_key c.args.domain.now c.args.map.now c.args.key.now c.requires.domain c.requires.map c.requires.key
