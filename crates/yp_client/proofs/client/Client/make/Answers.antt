use Rattle.yp_client.proofs.Calling.{room_make}
use Rattle.yp_client.proofs.client.Client.make.Goals as goal

pub call-requires-clause-room : goal.call-requires-clause-room
call-requires-clause-room g c = room_make c.args.domain.now c.args.kind c.requires

pub returns : goal.returns
returns g c = c.call.ensures
