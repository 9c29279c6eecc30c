use Rattle.std.proofs.Common.{rules, ◌≡◌, [], ◌∷◌, refl, sym, ap, ◌∙◌}
use Rattle.yp_worker.specs.datagrams.Mailing.{Call, held_behind}
use Rattle.yp_worker.proofs.datagrams.server.MailServer.forward.Goals as goal

pub returns-clause-forwards : goal.returns-clause-forwards
returns-clause-forwards g c = λ _. rw (← c.self.view_is) (record {
  makes = sym c.may_make.ensures ∙ c.if-not-may_make.false;
  answer_is = refl;
  host = refl;
  waits = refl;
  holding =
      let is : c.of_call-call.result ≡ Call c.args.from c.args.mail.now (g.H.View.seen c.self.inside.host).known = search rules in
      c.in-Ok-leave.ensures ∙ ap (λ d. held_behind c.self.inside.pass (d ∷ []) []) is;
})
