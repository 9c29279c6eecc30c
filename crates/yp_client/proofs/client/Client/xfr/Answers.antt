use Rattle.yp_messages.specs.inside.Transfers.{req_xfr_view}
use Rattle.yp_client.proofs.Calling.{room_xfr}
use Rattle.yp_client.proofs.client.Client.xfr.Goals as goal

pub call-requires-clause-room : goal.call-requires-clause-room
call-requires-clause-room g c =
    room_xfr (req_xfr_view c.args.request.now) c.requires.domain c.requires.map c.requires.peer

pub returns : goal.returns
returns g c = c.call.ensures
