-- What the code keeps of a push in its turns.
use Rattle.std.specs.Prelude.{◌≤◌, length}
use Rattle.yp_board.specs.Catalogues.{name_max, name_view}
use Rattle.yp_push.specs.declared.turns.pusher.PushRequest.{PushRequest}
use Rattle.yp_push.specs.declared.turns.pusher.Slave.{Slave as CodeSlave}
use Rattle.yp_push.specs.turns.Sendings.{Request}
use Rattle.yp_push.specs.turns.Pushers.{Slave}

abbrev pub slave_view : CodeSlave → Slave
slave_view slave = (slave.name.items, slave.peer)

abbrev pub request_view : PushRequest → Request
request_view request =
    record { store = name_view request.store; order = request.order; name = request.name.items; port = request.port }

-- the names of what slaves are asked are within their limits
pub record IsWithin (request : Request) : Type 0 where
  pub domain : length request.store.0 ≤ name_max
  pub map : length request.store.1 ≤ name_max
  pub name : length request.name ≤ name_max
