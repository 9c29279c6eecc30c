use Rattle.std.proofs.Common.{◌≡◌, ◌≤◌, ◌+◌, ◌++◌, length, vec_capacity}
use Rattle.std.specs.List.{All}
use Rattle.yp_server.specs.Serving.{IsAtStart}
use Rattle.yp_server.specs.inside.Serving.{before_work}
use Rattle.yp_server.specs.inside.Shares.{SharesFor}
use Rattle.yp_server.specs.inside.Workers.{connections_of}
use Rattle.yp_server.proofs.preparing.WorkerMaker.add_connection_workers.Given as goal

abbrev pub invariant-loop-buffers : goal.invariant-loop-buffers
invariant-loop-buffers g l = record {
  all_workers : l.all_workers.items ++ connections_of (length l.all_buffers.items) before_work
      ≡ l.initial.all_workers.items ++ connections_of (length l.initial.all_buffers.items) before_work;
  room : length l.all_workers.items + length l.all_buffers.items ≤ vec_capacity l.all_workers;
  readers : length l.readers.items ≡ length l.all_buffers.items;
  knows : All (λ reader. IsAtStart g.J.Site.catalogue g.J.Reception.starts (g.B.Reader.View.seen reader)) l.readers.items;
  shares : SharesFor (length l.all_buffers.items) 0 l.shares;
}

abbrev pub decreases-loop-buffers : goal.decreases-loop-buffers
decreases-loop-buffers g l = length l.all_buffers.items
