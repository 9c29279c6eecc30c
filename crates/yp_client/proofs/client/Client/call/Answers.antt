use Rattle.std.proofs.Common.{ℕ, ◌∙◌, ap, refl}
use Rattle.yp_client.specs.Calls.{spends}
use Rattle.yp_client.proofs.Judging.{called_ok, called_err}
use Rattle.yp_client.proofs.client.Client.call.Goals as goal
use Rattle.yp_client.proofs.client.Client.call.Goals.{in-Ok, in-Err}

pub returns : goal.returns
returns g c = rw (← c.self.view_is) (elim c.match-read.branch [
  | in-Ok w ↦
      let says = rw w.deref.ensures.value at w.judge-judged.ensures.answers in
      rw w.judged-is (called_ok _ _ _ _ w.judge-judged.result _ _ _ c.if-self.false w.judge-judged.ensures.of_reply
      says w.in-Ok.ensures.sent w.in-Ok.ensures.waited w.in-Ok.ensures.taken
      (c.is_spent_by-self-inside.ensures ∙ ap spends w.judged-is) refl c.exchange-read.ensures.reads
      c.exchange-read.ensures.writes)
  | in-Err w ↦
      rw w.judged-is (called_err _ ℕ _ _ _ w.in-Err.fault _ _ c.if-self.false w.in-Err.ensures.cause
      w.in-Err.ensures.sent w.in-Err.ensures.waited (c.is_spent_by-self-inside.ensures ∙ ap spends w.judged-is) refl
      c.exchange-read.ensures.reads c.exchange-read.ensures.writes)
])
