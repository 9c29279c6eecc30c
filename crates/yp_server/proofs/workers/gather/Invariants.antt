use Rattle.std.proofs.Common.{◌≡◌, ◌≤◌, ◌+◌, ◌++◌, length, reverse, vec_capacity}
use Rattle.yp_server.specs.inside.Workers.{mails_in, held_in}
use Rattle.yp_server.proofs.workers.gather.Given as goal

abbrev pub invariant-loop-server_worker : goal.invariant-loop-server_worker
invariant-loop-server_worker g l = record {
  mails : mails_in l.all_workers.items ++ reverse l.datagram_workers.items ≡ mails_in l.fn.all_workers.items;
  room : length (mails_in l.all_workers.items) + length l.datagram_workers.items ≤ vec_capacity l.datagram_workers;
  parts : l.pass.parts + (held_in l.all_workers.items).parts ≡ l.fn.pass.parts + (held_in l.fn.all_workers.items).parts;
  out : l.pass.out + (held_in l.all_workers.items).out ≡ l.fn.pass.out + (held_in l.fn.all_workers.items).out;
  ended : l.pass.ended + (held_in l.all_workers.items).ended ≡ l.fn.pass.ended + (held_in l.fn.all_workers.items).ended;
  hosts : length l.hosts.items + length l.datagram_workers.items + length l.all_workers.items
      ≡ length l.fn.hosts.items + length l.fn.all_workers.items;
  hosts_room : length l.hosts.items + length l.all_workers.items ≤ vec_capacity l.hosts;
  capacity : vec_capacity l.hosts ≡ vec_capacity l.fn.hosts;
}

abbrev pub decreases-loop-server_worker : goal.decreases-loop-server_worker
decreases-loop-server_worker g l = length l.all_workers.items
