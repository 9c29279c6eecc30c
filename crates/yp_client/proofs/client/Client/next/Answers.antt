use Rattle.yp_client.proofs.Calling.{room_key}
use Rattle.yp_client.proofs.client.Client.next.Goals as goal

pub lend_row-requires-clause-room : goal.lend_row-requires-clause-room
lend_row-requires-clause-room g c =
    room_key c.args.domain.now c.args.map.now c.args.key.now c.requires.domain c.requires.map c.requires.key
