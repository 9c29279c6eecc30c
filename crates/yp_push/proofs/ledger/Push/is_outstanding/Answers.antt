use Rattle.std.proofs.Common.{◌≡◌, ℕ, ◌<◌, true, not, ltb, length, get_or, sym, ap, subst, ◌∙◌, arith}
use Rattle.std.proofs.Math.Dec.{leb}
use Rattle.std.proofs.lemmas.Bool.Decides.{nat_tests}
use Rattle.std.proofs.lemmas.List.{get_or_read}
use Rattle.yp_push.specs.declared.outcome.Outcome.TheVariants.{Unsent}
use Rattle.yp_push.specs.Results.{is_unanswered}
use Rattle.yp_push.specs.Ledgers.{Ledger, is_outstanding}
use Rattle.yp_push.proofs.Keeping.{outstanding_by}
use Rattle.yp_push.proofs.ledger.Push.is_outstanding.Goals as goal

leb-not : (a b : ℕ) → leb a b ≡ not (ltb b a)
leb-not a b = grind (arith, nat_tests)

pub returns-then-is_unanswered : goal.returns-then-is_unanswered
returns-then-is_unanswered c =
    let slave = c.args.slave in
    let outcomes = c.self.inside.outcomes.items in
    let W : Ledger → Type 0 = λ ledger. slave < ledger.slaves in
    let within : slave < length outcomes = subst W (sym c.self.view_is) c.requires in
    let read = get_or_read outcomes slave c.index.result.now within c.index.ensures Unsent in
    let is : is_unanswered (get_or outcomes slave Unsent) ≡ true =
    ap is_unanswered (sym read) ∙ sym c.is_unanswered.ensures ∙ c.if-is_unanswered.true in
    leb-not c.self.inside.passed slave ∙ (rw is at (outstanding_by _ _ _ _ _ slave _ c.self.invariant within))
    ∙ ap (λ (ledger : Ledger). is_outstanding ledger.first ledger.events slave) c.self.view_is
