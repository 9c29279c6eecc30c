use Rattle.std.proofs.Common.{length, ◌∙◌, arith}
use Rattle.yp_server.specs.inside.Serving.{before_work}
use Rattle.yp_server.proofs.Posted.{others_behind, connections_more}
use Rattle.yp_server.proofs.preparing.WorkerMaker.add_workers.Goals as goal

pub returns-clause-workers : goal.returns-clause-workers
returns-clause-workers g c =
    let added = c.add_datagram_workers.ensures.workers in (
      added.0,
      others_behind added.0 (length c.args.worker_resources.memory.all_buffers.items) before_work _ _ added.1
          c.add_connection_workers.ensures.all_workers,
      added.2,
    )

pub add_connection_workers-requires-clause-shares : goal.add_connection_workers-requires-clause-shares
add_connection_workers-requires-clause-shares g c =
    let was = c.requires.shares in
    let less = c.add_datagram_workers.ensures.charges in
    let parts = less.0 in record {
      charges = let all = was.charges.0 in (omega (arith, all, parts), less.1 ∙ was.charges.1);
      out = was.out;
      ended = was.ended;
    }

pub add_connection_workers-requires-clause-room : goal.add_connection_workers-requires-clause-room
add_connection_workers-requires-clause-room g c =
    let fits = c.requires.room in
    let added = c.add_datagram_workers.ensures.count in
    let same = c.add_datagram_workers.ensures.room in
    omega (arith, fits, added, same)

pub returns-clause-count : goal.returns-clause-count
returns-clause-count g c =
    let first = c.add_datagram_workers.ensures.count in
    let more = connections_more (length c.args.worker_resources.memory.all_buffers.items) before_work _ _
    c.add_connection_workers.ensures.all_workers in
    omega (arith, first, more)
