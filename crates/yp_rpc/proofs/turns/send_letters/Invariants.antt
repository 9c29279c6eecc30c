use Rattle.std.proofs.Common.{◌≤◌, length}
use Rattle.yp_rpc.specs.Turns.{datagram_max}
use Rattle.yp_rpc.specs.inside.Turns.{box_by}
use Rattle.yp_rpc.specs.inside.Ways.{ways_by}
use Rattle.yp_rpc.proofs.Leading.{SoFar}
use Rattle.yp_rpc.proofs.turns.send_letters.Given as goal

abbrev pub invariant-loop-to : goal.invariant-loop-to
invariant-loop-to g l =
    let box = box_by g.I.Inbox in
    record {
      so_far : SoFar (ways_by g.E.Handler) l.initial.handler l.handler (box l.initial.inbox) (box l.inbox);
      room : datagram_max ≤ length l.buf;
      never_falls : g.I.Inbox.faults l.initial.inbox ≤ g.I.Inbox.faults l.inbox;
    }

abbrev pub decreases-loop-to : goal.decreases-loop-to
decreases-loop-to g l = g.E.Handler.letters l.handler
