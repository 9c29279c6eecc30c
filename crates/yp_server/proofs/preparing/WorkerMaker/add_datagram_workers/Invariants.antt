use Rattle.std.proofs.Common.{◌≡◌, ◌+◌, ◌++◌, List, length, reverse, vec_len, vec_capacity}
use Rattle.std.specs.List.{All, AllZip}
use Rattle.yp_host.specs.workers.Workers.{WorkerState}
use Rattle.yp_worker.specs.datagrams.Mailing.{nothing_held}
use Rattle.yp_server.specs.declared.datagrams.DatagramWorker.{DatagramWorker}
use Rattle.yp_server.specs.Counting.{count_told}
use Rattle.yp_server.specs.Serving.{conduct_at, IsAtStart}
use Rattle.yp_server.specs.inside.Counting.{mail_start, BeginsMail}
use Rattle.yp_server.specs.inside.Serving.{before_work}
use Rattle.yp_server.specs.inside.Workers.{workers_of}
use Rattle.yp_server.proofs.preparing.WorkerMaker.add_datagram_workers.Given as goal

abbrev pub invariant-loop-inbox : goal.invariant-loop-inbox
invariant-loop-inbox g l = record {
  workers : (datagram_workers : List (DatagramWorker g.row.I.Denot g.row.J.Denot (WorkerState g.row.B-Reader.Denot) g.row.B-Knowledge.Denot g.row.R.Denot)) × (done : List g.row.I.Denot)
      × (l.all_workers.items ≡ workers_of datagram_workers 0 before_work) × (done ++ reverse l.inboxes.items ≡ l.fn.inbox_resources.inboxes.items)
      × AllZip (BeginsMail (conduct_at g.B.Reader.View.seen g.B.Reader.View.stepped g.J.Supplies.text g.J.Supplies.hosts) count_told
      (mail_start g.J.Site.catalogue g.J.Reception.starts l.self.pending.now l.fn.inbox_resources.turns)) done datagram_workers;
  count : length l.all_workers.items + length l.inboxes.items ≡ length l.fn.inbox_resources.inboxes.items;
  room : vec_capacity l.all_workers ≡ vec_capacity l.fn.all_workers;
  rooms : length l.rooms.items ≡ length l.inboxes.items;
  readers : length l.readers.items + length l.fn.inbox_resources.inboxes.items ≡ length l.fn.readers.items + length l.inboxes.items;
  knows : All (λ reader. IsAtStart g.J.Site.catalogue g.J.Reception.starts (g.B.Reader.View.seen reader)) l.readers.items;
  charges : (l.charges.parts + length l.fn.inbox_resources.inboxes.items ≡ l.fn.charges.parts + length l.inboxes.items)
      × (l.charges.left ≡ l.fn.charges.left);
  parts : (l.parts ≡ nothing_held l.self.pending.now l.parts.parts)
      × (l.parts.parts + length l.fn.inbox_resources.inboxes.items ≡ l.fn.parts.parts + length l.inboxes.items);
}

abbrev pub decreases-loop-inbox : goal.decreases-loop-inbox
decreases-loop-inbox g l = vec_len l.inboxes
