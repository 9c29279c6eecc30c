use Rattle.std.proofs.Common.{refl, length, subst, ◌∙◌}
use Rattle.std.specs.Prelude.{IfSome}
use Rattle.yp_board.specs.Catalogues.{Catalogue}
use Rattle.yp_answer.specs.inside.session.Errands.{IsDue}
use Rattle.yp_answer.specs.session.Hosts.{conduct_of}
use Rattle.yp_worker.proofs.datagrams.Answering.{answered}
use Rattle.yp_worker.proofs.datagrams.server.MailServer.answer.Goals as goal

pub returns-clause-answers : goal.returns-clause-answers
returns-clause-answers g c =
    let conduct = conduct_of g.H.View.seen g.H.Host.told g.H.Host.counts g.H.View.stepped g.H.Host.made g.H.Host.carried in
    let replied = c.reply_to-len.ensures.replied in
    rw (← c.self.view_is) (record {
      turn = replied.0;
      message_is = replied.1;
      answer_is = replied.2;
      answers = answered conduct c.args.from replied.0 c.self.inside.host c.reply_to-len.new.host replied.3 replied.5;
      waits = replied.4;
      holding = refl;
    })

pub invariant_of-self : goal.invariant_of-self
invariant_of-self g c =
    let conduct = conduct_of g.H.View.seen g.H.Host.told g.H.Host.counts g.H.View.stepped g.H.Host.made g.H.Host.carried in
    let replied = c.reply_to-len.ensures.replied in
    let heard = answered conduct c.args.from replied.0 c.self.inside.host c.reply_to-len.new.host replied.3 replied.5 in
    let same = heard.catalogue ∙ c.self.invariant.0 in (
      same,
      c.self.invariant.1,
      subst (λ (k : Catalogue). IfSome c.reply_to-len.result.1 (λ awaited. IsDue (length k.maps) awaited.0)) same c.reply_to-len.ensures.due,
    )
