use Rattle.yp_client.proofs.Calling.{room_map}
use Rattle.yp_client.proofs.client.Client.make_named.Goals as goal

pub call-requires-clause-room : goal.call-requires-clause-room
call-requires-clause-room g c = room_map c.args.domain.now c.args.map.now c.requires.domain c.requires.map

pub returns : goal.returns
returns g c = c.call.ensures
