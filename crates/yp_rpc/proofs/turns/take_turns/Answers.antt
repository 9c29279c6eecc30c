use Rattle.std.proofs.Common.{◌≡◌, ◌+◌, ◌-◌, suc, arith, rules, true, false}
use Rattle.yp_rpc.specs.declared.turns.Ended.TheVariants.{Done}
use Rattle.std.proofs.Common.{Ok}
use Rattle.yp_rpc.specs.inside.Turns.{box_by}
use Rattle.yp_rpc.specs.inside.Ways.{ways_by}
use Rattle.yp_rpc.proofs.Leading.{whole_more, whole_spent, whole_stops, fails_before, fails_at, begun_true, begun_false}
use Rattle.yp_rpc.proofs.turns.take_turns.Goals as goal

pub returns-in_err-send_letters-clause-takes : goal.returns-in_err-send_letters-clause-takes
returns-in_err-send_letters-clause-takes g c =
    let ways = ways_by g.E.Handler in
    let box = box_by g.I.Inbox in
    let under = c.loop-test.true in
    let left : c.args.most - c.loop.counter ≡ suc (c.args.most - (c.loop.counter + 1)) = omega (arith, under) in
    fails_before ways c.from_residual.result c.args.most (c.args.most - c.loop.counter) (c.args.most - (c.loop.counter + 1)) c.in_err-send_letters.field-0.0
    c.args.handler.now c.loop.handler c.send_letters.new.handler (box c.args.inbox.now) (box c.loop.inbox) (box c.send_letters.new.inbox)
    c.from_residual.ensures.0 left c.loop.invariant.whole c.in_err-send_letters.ensures.begins

pub returns-then-not-branch-clause-takes : goal.returns-then-not-branch-clause-takes
returns-then-not-branch-clause-takes g c =
    let ways = ways_by g.E.Handler in
    let box = box_by g.I.Inbox in
    let under = c.loop-test.true in
    let left : c.args.most - c.loop.counter ≡ suc (c.args.most - (c.loop.counter + 1)) = omega (arith, under) in
    let wants : c.in_ok-send_letters.field-0 ≡ false = search rules in
    whole_stops ways c.args.most (c.args.most - c.loop.counter) (c.args.most - (c.loop.counter + 1)) (Ok Done)
    c.args.handler.now c.loop.handler c.send_letters.new.handler (box c.args.inbox.now) (box c.loop.inbox) (box c.send_letters.new.inbox)
    left c.loop.invariant.whole
    (begun_false ways c.in_ok-send_letters.field-0 c.loop.handler c.send_letters.new.handler (box c.loop.inbox) (box c.send_letters.new.inbox) wants c.in_ok-send_letters.ensures.begins)

pub returns-in_err-take_turn-clause-takes : goal.returns-in_err-take_turn-clause-takes
returns-in_err-take_turn-clause-takes g c =
    let ways = ways_by g.E.Handler in
    let box = box_by g.I.Inbox in
    let under = c.loop-test.true in
    let left : c.args.most - c.loop.counter ≡ suc (c.args.most - (c.loop.counter + 1)) = omega (arith, under) in
    let wants : c.in_ok-send_letters.field-0 ≡ true = search rules in
    fails_at ways c.from_residual-in_err-take_turn.result c.args.most (c.args.most - c.loop.counter) (c.args.most - (c.loop.counter + 1)) c.in_err-take_turn.field-0.0
    c.args.handler.now c.loop.handler c.send_letters.new.handler c.take_turn.new.handler
    (box c.args.inbox.now) (box c.loop.inbox) (box c.send_letters.new.inbox) (box c.take_turn.new.inbox)
    c.from_residual-in_err-take_turn.ensures.0 left c.loop.invariant.whole
    (begun_true ways c.in_ok-send_letters.field-0 c.loop.handler c.send_letters.new.handler (box c.loop.inbox) (box c.send_letters.new.inbox) wants c.in_ok-send_letters.ensures.begins)
    c.in_err-take_turn.ensures.turn

pub loop-preserved : goal.loop-preserved
loop-preserved g c =
    let ways = ways_by g.E.Handler in
    let box = box_by g.I.Inbox in
    let under = c.loop-test.true in
    let left : c.args.most - c.loop.counter ≡ suc (c.args.most - (c.loop.counter + 1)) = omega (arith, under) in
    let wants : c.in_ok-send_letters.field-0 ≡ true = search rules in
    let first = c.loop.invariant.never_falls in
    let second = c.send_letters.ensures.cause.never_falls in
    let third = c.take_turn.ensures.cause.never_falls in
    record {
      whole = whole_more ways c.args.most (c.args.most - c.loop.counter) (c.args.most - (c.loop.counter + 1))
          c.args.handler.now c.loop.handler c.send_letters.new.handler c.take_turn.new.handler
          (box c.args.inbox.now) (box c.loop.inbox) (box c.send_letters.new.inbox) (box c.take_turn.new.inbox) left c.loop.invariant.whole
          (begun_true ways c.in_ok-send_letters.field-0 c.loop.handler c.send_letters.new.handler (box c.loop.inbox) (box c.send_letters.new.inbox) wants c.in_ok-send_letters.ensures.begins)
          c.in_ok-take_turn.ensures.turn;
      never_falls = omega (arith, first, second, third);
    }

pub returns-clause-takes : goal.returns-clause-takes
returns-clause-takes g c =
    let ways = ways_by g.E.Handler in
    let box = box_by g.I.Inbox in
    let over = c.loop-test.false in
    let none : c.args.most - c.loop.counter ≡ 0 = omega (arith, over) in
    whole_spent ways c.args.most (c.args.most - c.loop.counter) c.args.handler.now c.loop.handler (box c.args.inbox.now) (box c.loop.inbox) none c.loop.invariant.whole
