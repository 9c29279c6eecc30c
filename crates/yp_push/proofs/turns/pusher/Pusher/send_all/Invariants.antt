use Rattle.std.proofs.Common.{◌≡◌, false, length, ◌-◌}
use Rattle.yp_transfer.specs.inside.Dials.{dial_by}
use Rattle.yp_push.specs.Ledgers.{asked}
use Rattle.yp_push.specs.turns.Pushers.{SendsAll}
use Rattle.yp_push.proofs.turns.pusher.Pusher.send_all.Given as goal

abbrev pub invariant-loop-sending : goal.invariant-loop-sending
invariant-loop-sending g l =
    record {
      all : SendsAll (dial_by g.A.Dial) l.initial.self l.self;
      fed : l.self.starved ≡ false;
    }

abbrev pub decreases-loop-sending : goal.decreases-loop-sending
decreases-loop-sending g l = l.self.ledger.slaves - length (asked l.self.ledger.events)
