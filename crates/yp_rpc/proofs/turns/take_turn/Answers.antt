use Rattle.std.proofs.Common.{◌<◌, rules, length, subst}
use Rattle.yp_io.specs.declared.inbox.Mail.{Mail}
use Rattle.yp_rpc.specs.Turns.{datagram_max}
use Rattle.yp_rpc.specs.inside.Turns.{box_by}
use Rattle.yp_rpc.specs.inside.Ways.{ways_by}
use Rattle.yp_rpc.proofs.Seeing.{Turned, seen_turn}
use Rattle.yp_rpc.proofs.Leading.{met_long, met_quiet, met_mail}
use Rattle.yp_rpc.proofs.turns.take_turn.Goals as goal

pub returns-in-Came-clause-turn : goal.returns-in-Came-clause-turn
returns-in-Came-clause-turn g c =
    let ways = ways_by g.E.Handler in
    let box = box_by g.I.Inbox in
    let a = box c.args.inbox.now in
    let b = box c.next.new.self in
    let did = c.in_ok-len.ensures in
    let buf = c.next.new.buf in
    let turned : Turned c.in_ok-len.field-0 buf a b = seen_turn c.in_ok-len.field-0 buf did.within did.turn did.turns did.quiets in
    let room : datagram_max < length buf = search rules in
    met_mail ways c.hear_mail.result c.in-Came.len c.in-Came.from buf c.args.handler.now c.hear_mail.new.handler a b (box c.hear_mail.new.inbox)
    (subst (λ (m : Mail). Turned m buf a b) c.in-Came.is turned) c.if-len-le-DATAGRAM_MAX.true room c.hear_mail.ensures.heard

pub returns-in-Came-2-clause-turn : goal.returns-in-Came-2-clause-turn
returns-in-Came-2-clause-turn g c =
    let ways = ways_by g.E.Handler in
    let box = box_by g.I.Inbox in
    let a = box c.args.inbox.now in
    let b = box c.next.new.self in
    let did = c.in_ok-len.ensures in
    let buf = c.next.new.buf in
    let turned : Turned c.in_ok-len.field-0 buf a b = seen_turn c.in_ok-len.field-0 buf did.within did.turn did.turns did.quiets in
    met_long ways c.in-Came.len c.in-Came.from buf c.args.handler.now a b (subst (λ (m : Mail). Turned m buf a b) c.in-Came.is turned) c.if-len-le-DATAGRAM_MAX.false

pub returns-in-Quiet-clause-turn : goal.returns-in-Quiet-clause-turn
returns-in-Quiet-clause-turn g c =
    let ways = ways_by g.E.Handler in
    let box = box_by g.I.Inbox in
    let a = box c.args.inbox.now in
    let b = box c.next.new.self in
    let did = c.in_ok-len.ensures in
    let buf = c.next.new.buf in
    let turned : Turned c.in_ok-len.field-0 buf a b = seen_turn c.in_ok-len.field-0 buf did.within did.turn did.turns did.quiets in
    met_quiet ways buf c.args.handler.now c.rest.new.self a b (subst (λ (m : Mail). Turned m buf a b) c.in-Quiet.is turned) c.rest.ensures
