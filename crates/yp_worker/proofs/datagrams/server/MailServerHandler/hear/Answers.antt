use Rattle.std.proofs.Common.{inl, inr, subst}
use Rattle.yp_answer.specs.session.Hosts.{conduct_of}
use Rattle.yp_rpc.specs.inside.Turns.{reply_of}
use Rattle.yp_worker.specs.datagrams.Mailing.{Answers}
use Rattle.yp_worker.proofs.datagrams.server.MailServerHandler.hear.Goals as goal

pub returns-then-forward-clause-hears : goal.returns-then-forward-clause-hears
returns-then-forward-clause-hears g c = inr (c.forward.ensures.forwards c.if-forward.true)

pub returns-clause-hears : goal.returns-clause-hears
returns-clause-hears g c =
    let conduct = conduct_of g.H.View.seen g.H.Host.told g.H.Host.counts g.H.View.stepped g.H.Host.made g.H.Host.carried in
    inl (subst (λ m. Answers conduct c.args.from c.args.mail.now (reply_of c.answer.result c.answer.new.buf) m c.answer.new.self)
    (c.forward.ensures.same c.if-forward.false) c.answer.ensures.answers)
