use Rattle.std.proofs.Common.{arith}
use Rattle.yp_client.proofs.Calling.{room_domain}
use Rattle.yp_client.proofs.client.Client.domain.Goals as goal

pub call-requires-clause-room : goal.call-requires-clause-room
call-requires-clause-room g c = room_domain c.args.domain.now (omega (arith, c.requires))

pub returns : goal.returns
returns g c = c.call.ensures
