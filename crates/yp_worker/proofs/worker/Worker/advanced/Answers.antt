use Rattle.std.proofs.Common.{sym}
use Rattle.yp_worker.proofs.Attending.{kept_len, one_written}
use Rattle.yp_worker.proofs.worker.Worker.advanced.Goals as goal

pub returns-clause-went : goal.returns-clause-went
returns-clause-went g c =
    let was = c.in_ok-guest.guest.now in
    let now = c.take_moved.new.self in
    let found = sym c.in_ok-guest.ensures.value in record {
      was = was;
      now = now;
      found = found;
      updates = one_written c.args.guests.now c.args.key was now found;
      count = kept_len c.args.guests.now c.args.key was now found;
      change = (
        rw (c.take_moved.ensures, ← c.self.view_is) c.advance-advance.ensures.works,
        rw c.take_moved.ensures c.advance-advance.ensures.due,
        rw (c.take_moved.ensures, ← c.self.view_is) c.advance-advance.ensures.comes_to,
      );
    }
