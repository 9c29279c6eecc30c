use Rattle.std.proofs.Common.{◌≡◌, false, sym, ◌∙◌}
use Rattle.yp_answer.specs.inside.Outcomes.{may_have_outcome}
use Rattle.yp_answer.proofs.Overlooked.{overlooks_none}
use Rattle.yp_answer.proofs.outcome.outcome_of.Goals as goal

pub returns-then-not-may_have_outcome : goal.returns-then-not-may_have_outcome
returns-then-not-may_have_outcome c =
    let overlooks : may_have_outcome c.args.message.now ≡ false =
    sym c.may_have_outcome.ensures ∙ c.if-not-may_have_outcome.true in
    sym (overlooks_none c.args.message.now c.args.reply.now overlooks)
