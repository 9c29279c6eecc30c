use Rattle.std.proofs.Common.{◌≡◌, ◌<◌, refl, sym, subst, true}
use Rattle.yp_push.specs.declared.outcome.Outcome.TheVariants.{Answered}
use Rattle.yp_push.specs.declared.event.Event.TheVariants.{Called}
use Rattle.yp_push.specs.inside.Results.{awaits_call}
use Rattle.yp_push.specs.Ledgers.{Ledger, outcome_at}
use Rattle.yp_push.specs.inside.Settling.{SettlesSlave, ChangesNone}
use Rattle.yp_push.specs.inside.Kept.{ledger_of}
use Rattle.yp_push.proofs.Settling.{slave_of, heard, unheard}
use Rattle.yp_push.proofs.ledger.Push.on_callback.Goals as goal

pub settle-requires : goal.settle-requires
settle-requires c =
    let kept = c.self.invariant in
    let transid = c.args.transid in
    let slave = slave_of c.self.inside.first transid in
    let W : Ledger → Type 0 =
    λ ledger. (slave < ledger.slaves) × (awaits_call (outcome_at ledger slave) ≡ true) in
    let S : Ledger → Type 0 = λ ledger. SettlesSlave ledger slave (Answered c.args.stat) (Called transid c.args.stat) in
    let awaits = subst W (sym c.self.view_is) (c.if-is_awaited.ensures.0 refl) in
    subst S c.self.view_is
    (heard (ledger_of c.self.inside) transid c.args.stat kept.few kept.in_range c.ranges.transid.fits awaits)

pub ignore-requires : goal.ignore-requires
ignore-requires c =
    let kept = c.self.invariant in
    let transid = c.args.transid in
    let slave = slave_of c.self.inside.first transid in
    let W : Ledger → Type 0 =
    λ ledger. (slave < ledger.slaves) × (awaits_call (outcome_at ledger slave) ≡ true) in
    let N : Ledger → Type 0 = λ ledger. ChangesNone ledger (Called transid c.args.stat) in
    subst N c.self.view_is
    (unheard (ledger_of c.self.inside) transid c.args.stat kept.few kept.in_range
    (λ awaits. c.if-is_awaited.ensures.1 (subst W c.self.view_is awaits)))
