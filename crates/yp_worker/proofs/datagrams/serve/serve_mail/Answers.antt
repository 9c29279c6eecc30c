use Rattle.std.proofs.Common.{Result, sym, subst}
use Rattle.yp_io.specs.declared.stream.Failed.{Failed}
use Rattle.yp_answer.specs.session.Hosts.{conduct_of}
use Rattle.yp_rpc.specs.inside.Turns.{box_by}
use Rattle.yp_rpc.specs.declared.turns.Ended.{Ended}
use Rattle.yp_worker.specs.datagrams.Mailing.{Closes}
use Rattle.yp_worker.proofs.datagrams.Running.{serves_mail}
use Rattle.yp_worker.proofs.datagrams.serve.serve_mail.Goals as goal

pub returns-in-Ok-clause-serves : goal.returns-in-Ok-clause-serves
returns-in-Ok-clause-serves g c =
    let conduct = conduct_of g.H.View.seen g.H.Host.told g.H.Host.counts g.H.View.stepped g.H.Host.made g.H.Host.carried in
    let box = box_by g.I.Inbox in
    let last = c.take_turns-ended.new.handler in
    let new = c.carry_out.new.self in
    serves_mail conduct g.H.CatchUp.counted c.args.turns c.take_turns-ended.result c.args.server.now last new (box c.args.inbox.now)
    (box c.take_turns-ended.new.inbox) c.take_turns-ended.ensures.takes
    (subst (λ (r : Result Ended Failed). Closes conduct r last new) (sym c.in-Ok.is) c.carry_out.ensures)

pub returns-in-Err-clause-serves : goal.returns-in-Err-clause-serves
returns-in-Err-clause-serves g c =
    let conduct = conduct_of g.H.View.seen g.H.Host.told g.H.Host.counts g.H.View.stepped g.H.Host.made g.H.Host.carried in
    let box = box_by g.I.Inbox in
    let last = c.take_turns-ended.new.handler in
    let new = c.forget.new.self in
    serves_mail conduct g.H.CatchUp.counted c.args.turns c.take_turns-ended.result c.args.server.now last new (box c.args.inbox.now)
    (box c.take_turns-ended.new.inbox) c.take_turns-ended.ensures.takes
    (subst (λ (r : Result Ended Failed). Closes conduct r last new) (sym c.in-Err.is) c.forget.ensures)
