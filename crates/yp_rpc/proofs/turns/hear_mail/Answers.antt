use Rattle.std.proofs.Common.{[], List, Option, ℕ, refl, subst}
use Rattle.yp_rpc.specs.Turns.{listens}
use Rattle.yp_rpc.specs.inside.Turns.{box_by}
use Rattle.yp_rpc.specs.inside.Ways.{ways_by}
use Rattle.yp_rpc.proofs.Seeing.{seen_none}
use Rattle.yp_rpc.proofs.Leading.{none_of, some_of, reply_heard}
use Rattle.yp_rpc.proofs.turns.hear_mail.Goals as goal

pub returns-then-len-eq0-clause-heard : goal.returns-then-len-eq0-clause-heard
returns-then-len-eq0-clause-heard g c =
    let heard = subst (λ (r : Option (List ℕ)). g.E.Handler.hears c.args.from c.args.mail.now r c.args.handler.now c.hear-len.new.self)
    (none_of c.hear-len.result c.hear-len.new.buf c.if-len-eq0.true) c.hear-len.ensures.hears in
    ([], listens c.args.from c.args.mail.now c.args.handler.now c.hear-len.new.self c.requires.mail heard, seen_none refl refl refl)

pub returns-clause-heard : goal.returns-clause-heard
returns-clause-heard g c =
    let ways = ways_by g.E.Handler in
    let box = box_by g.I.Inbox in
    let heard = subst (λ (r : Option (List ℕ)). g.E.Handler.hears c.args.from c.args.mail.now r c.args.handler.now c.hear-len.new.self)
    (some_of c.hear-len.result c.hear-len.new.buf c.if-len-eq0.false) c.hear-len.ensures.hears in
    let did = c.send.ensures in
    reply_heard ways c.send.result c.args.from c.args.mail.now _ c.args.handler.now c.hear-len.new.self (box c.args.inbox.now) (box c.send.new.self)
    c.requires.mail heard did.sent did.none did.turns did.quiets
