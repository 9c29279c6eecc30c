use Rattle.std.proofs.Common.{arith}
use Rattle.yp_server.proofs.workers.Staff.new.Goals as goal

pub returns-clause-none : goal.returns-clause-none
returns-clause-none g c = (
  c.in_ok-room_for.ensures.none,
  c.in_ok-room_for-2.ensures.none,
  c.in_ok-room_for-3.ensures.none,
  c.in_ok-room_for-4.ensures.none,
)

pub returns-clause-all_workers : goal.returns-clause-all_workers
returns-clause-all_workers g c =
    let room = c.in_ok-room_for.ensures.room in
    omega (arith, room, c.len-workers.ensures, c.len-inboxes.ensures)

pub returns-clause-datagram_workers : goal.returns-clause-datagram_workers
returns-clause-datagram_workers g c =
    let room = c.in_ok-room_for-2.ensures.room in
    omega (arith, room, c.len-inboxes.ensures)

pub returns-clause-inboxes : goal.returns-clause-inboxes
returns-clause-inboxes g c =
    let room = c.in_ok-room_for-3.ensures.room in
    omega (arith, room, c.len-inboxes.ensures)
