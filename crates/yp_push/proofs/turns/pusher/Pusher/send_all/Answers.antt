use Rattle.std.proofs.Common.{rules}
use Rattle.yp_transfer.specs.inside.Dials.{dial_by}
use Rattle.yp_push.specs.turns.Pushers.{sends_none}
use Rattle.yp_push.proofs.turns.Going.{sent_more, fewer}
use Rattle.yp_push.proofs.turns.pusher.Pusher.send_all.Goals as goal

pub returns-then-self-clause-all : goal.returns-then-self-clause-all
returns-then-self-clause-all g c = sends_none c.args.self.now

pub loop-sending-init : goal.loop-sending-init
loop-sending-init g c = record { all = sends_none c.args.self.now; fed = search rules }

pub returns-then-self-2-clause-all : goal.returns-then-self-2-clause-all
returns-then-self-2-clause-all g c =
    let asked = c.in-Some.ensures in
    sent_more (dial_by g.A.Dial) c.in-Some.sending c.args.self.now
    c.loop-sending.self c.next_send.new.self c.reach.new.self c.loop-sending.invariant.all c.loop-sending.invariant.fed
    asked.next asked.sent c.reach.ensures

pub loop-sending-smaller : goal.loop-sending-smaller
loop-sending-smaller g c =
    let asked = c.in-Some.ensures in
    fewer (dial_by g.A.Dial) c.in-Some.sending c.loop-sending.self
    c.next_send.new.self c.reach.new.self asked.next asked.sent c.reach.ensures

pub loop-sending-preserved : goal.loop-sending-preserved
loop-sending-preserved g c =
    let asked = c.in-Some.ensures in
    record {
      all = sent_more (dial_by g.A.Dial) c.in-Some.sending c.args.self.now
          c.loop-sending.self c.next_send.new.self c.reach.new.self c.loop-sending.invariant.all
          c.loop-sending.invariant.fed asked.next asked.sent c.reach.ensures;
      fed = search rules;
    }
