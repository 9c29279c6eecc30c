use Rattle.std.proofs.Common.{◌≤◌, ◌-◌}
use Rattle.yp_rpc.specs.inside.Turns.{box_by}
use Rattle.yp_rpc.specs.inside.Ways.{ways_by}
use Rattle.yp_rpc.proofs.Leading.{Whole}
use Rattle.yp_rpc.proofs.turns.take_turns.Given as goal

abbrev pub invariant-loop : goal.invariant-loop
invariant-loop g l =
    let box = box_by g.I.Inbox in
    record {
      whole : Whole (ways_by g.E.Handler) l.most (l.most - l.counter) l.initial.handler l.handler
          (box l.initial.inbox) (box l.inbox);
      never_falls : g.I.Inbox.faults l.initial.inbox ≤ g.I.Inbox.faults l.inbox;
    }
