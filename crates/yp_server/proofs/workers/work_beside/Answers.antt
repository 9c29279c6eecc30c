use denote.Param.Send.{sendable}
use Rattle.std.proofs.Crossing.{crosses}
use Rattle.yp_server.proofs.Crossing.{lent_sync, server_worker_send, carrier_send}
use Rattle.yp_server.proofs.workers.work_beside.Goals as goal

pub work_all_beside-requires-send-P : goal.work_all_beside-requires-send-P
work_all_beside-requires-send-P g c κs within = search (sendable, crosses, server_worker_send) depth 60 fits 50000

pub work_all_beside-requires-sync-W : goal.work_all_beside-requires-sync-W
work_all_beside-requires-sync-W g c κs within = search (sendable, crosses, lent_sync) depth 60 fits 50000

pub work_all_beside-requires-send-T : goal.work_all_beside-requires-send-T
work_all_beside-requires-send-T g c κs within = search (sendable, crosses, carrier_send) depth 60 fits 50000
