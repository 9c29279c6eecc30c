use Rattle.yp_end_to_end.proofs.exchange.Room.{room_for_version}
use Rattle.yp_end_to_end.proofs.exchange.laws.room_for_version.Goals as goal

pub returns : goal.returns
returns c = room_for_version
