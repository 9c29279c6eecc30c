use Rattle.std.proofs.Common.{◌⊎◌, ◌≤◌, length, ap, ◌∙◌, inl, inr, arith}
use Rattle.yp_push.specs.Ledgers.{next_sending}
use Rattle.std.proofs.lemmas.List.{length-set}
use Rattle.yp_push.specs.declared.outcome.Outcome.TheVariants.{Unanswered}
use Rattle.yp_push.proofs.Keeping.{sends, sends_to}
use Rattle.yp_push.proofs.Settling.{sends_none, sends_one}
use Rattle.yp_push.proofs.ledger.Push.next_send.Goals as goal
use Rattle.yp_push.proofs.ledger.Push.next_send.Goals.{then-self-len-via-then-self-len}
use Rattle.yp_push.proofs.ledger.Push.next_send.Goals.{then-self-len-via-else-self-len+then-self}

pub returns-then-self-len-clause-sending : goal.returns-then-self-len-clause-sending
returns-then-self-len-clause-sending c =
    let inside = c.self.inside in
    let why : (length inside.outcomes.items ≤ inside.sent) ⊎ (inside.window ≤ inside.outstanding) =
    elim c.then-self-len.branch [
      | then-self-len-via-then-self-len w ↦ inl (omega arith)
      | then-self-len-via-else-self-len+then-self w ↦ inr (omega arith)
    ] in
    sends_none _ _ _ _ _ _ _ c.self.invariant why ∙ ap next_sending c.self.view_is

pub invariant_of-self : goal.invariant_of-self
invariant_of-self c = rw c.push.ensures (sends _ _ _ _ _ _ c.self.invariant (omega arith))

pub returns-clause-sending : goal.returns-clause-sending
returns-clause-sending c =
    sends_one _ _ _ _ _ _ _ c.self.invariant (omega arith) (omega arith) ∙ ap next_sending c.self.view_is

pub returns-clause-unanswered : goal.returns-clause-unanswered
returns-clause-unanswered c =
    let same = length-set c.self.inside.outcomes.items c.self.inside.sent Unanswered in
    rw c.push.ensures (record { within = omega (arith, same); unanswered = sends_to _ _ _ _ _ _ c.self.invariant })
