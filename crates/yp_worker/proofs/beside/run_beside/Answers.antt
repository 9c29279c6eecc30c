use denote.Param.Send.{sendable}
use Rattle.std.proofs.Crossing.{crosses}
use Rattle.yp_worker.proofs.Crossing.{listening_send, pass_send, worker_send}
use Rattle.yp_worker.proofs.beside.run_beside.Goals as goal

pub join-requires-send-F : goal.join-requires-send-F
join-requires-send-F g c κs within = search (sendable, crosses, listening_send, pass_send, worker_send) depth 60 fits 50000
