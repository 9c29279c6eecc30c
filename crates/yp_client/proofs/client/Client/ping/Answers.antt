use Rattle.std.proofs.Common.{arith}
use Rattle.yp_xdr.specs.Spelling.{fixed}
use Rattle.yp_client.proofs.client.Client.ping.Goals as goal

pub call-requires-clause-room : goal.call-requires-clause-room
unfolding fixed
call-requires-clause-room g c = omega arith

pub returns : goal.returns
returns g c = c.call.ensures
