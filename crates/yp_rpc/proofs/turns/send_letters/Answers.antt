use Rattle.std.proofs.Common.{arith, rules, take}
use Rattle.yp_rpc.specs.inside.Turns.{box_by}
use Rattle.yp_rpc.specs.inside.Ways.{ways_by}
use Rattle.yp_rpc.proofs.Leading.{sent_on, stops_on, fails_on, begins_failed}
use Rattle.yp_rpc.proofs.turns.send_letters.Goals as goal

pub loop-to-preserved : goal.loop-to-preserved
loop-to-preserved g c =
    let ways = ways_by g.E.Handler in
    let box = box_by g.I.Inbox in
    let far = c.loop-to.invariant in
    let did = c.in_ok-send-in-Send.ensures in
    let falls = did.cause.never_falls in
    let fell = far.never_falls in
    record {
      so_far = sent_on ways c.args.handler.now c.loop-to.handler c.next.new.self (box c.args.inbox.now) (box c.loop-to.inbox) (box c.send.new.self)
          c.in-Send.to (take c.in-Send.len c.next.new.buf) far.so_far c.in-Send.ensures.goes did.sent did.turns did.quiets;
      room = search rules;
      never_falls = omega (arith, falls, fell);
    }

pub returns-in_err-send-in-Send-clause-begins : goal.returns-in_err-send-in-Send-clause-begins
returns-in_err-send-in-Send-clause-begins g c =
    let ways = ways_by g.E.Handler in
    let box = box_by g.I.Inbox in
    let did = c.in_err-send-in-Send.ensures in
    begins_failed ways c.from_residual.result c.args.handler.now c.next.new.self (box c.args.inbox.now) (box c.send.new.self) c.from_residual.ensures.0
    (λ why. fails_on ways why c.args.handler.now c.loop-to.handler c.next.new.self (box c.args.inbox.now) (box c.loop-to.inbox) (box c.send.new.self)
    c.in-Send.to (take c.in-Send.len c.next.new.buf) c.loop-to.invariant.so_far c.in-Send.ensures.goes did.none did.turns did.quiets)

pub returns-in-Done-clause-begins : goal.returns-in-Done-clause-begins
returns-in-Done-clause-begins g c =
    let ways = ways_by g.E.Handler in
    let box = box_by g.I.Inbox in
    stops_on ways c.args.handler.now c.loop-to.handler c.next.new.self (box c.args.inbox.now) (box c.loop-to.inbox) c.loop-to.invariant.so_far c.in-Done.ensures.goes
