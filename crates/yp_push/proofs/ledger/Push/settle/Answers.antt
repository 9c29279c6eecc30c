use Rattle.std.proofs.Common.{◌≡◌, Bool, sym, subst, ap, ◌∙◌, refl, true, false, arith}
use mir.Val.{bool_byte}
use Rattle.yp_push.specs.Ledgers.{Ledger, is_outstanding}
use Rattle.yp_push.specs.inside.Settling.{SettlesSlave}
use Rattle.yp_push.proofs.Counts.{one_if}
use Rattle.yp_push.proofs.Keeping.{lessens, settles_one}
use Rattle.yp_push.proofs.ledger.Push.settle.Goals as goal

byte-one_if : (b : Bool) → bool_byte b ≡ one_if b
byte-one_if true = refl
byte-one_if false = refl

pub overflow_sub-self : goal.overflow_sub-self
overflow_sub-self c =
    let P : Ledger → Type 0 = λ ledger. SettlesSlave ledger c.args.slave c.args.outcome c.args.event in
    let settles = subst P (sym c.self.view_is) c.requires in
    let less = lessens _ _ c.self.inside.window _ _ _ _ _ _ _ c.self.invariant settles in
    let one = c.from.ensures ∙ byte-one_if c.is_outstanding.result ∙ ap one_if c.is_outstanding.ensures
    ∙ ap (λ (ledger : Ledger). one_if (is_outstanding ledger.first ledger.events c.args.slave)) (sym c.self.view_is) in
    omega (arith, less, one)

pub invariant_of-self : goal.invariant_of-self
invariant_of-self c =
    let P : Ledger → Type 0 = λ ledger. SettlesSlave ledger c.args.slave c.args.outcome c.args.event in
    let settles = subst P (sym c.self.view_is) c.requires in
    let less = lessens _ _ c.self.inside.window _ _ _ _ _ _ _ c.self.invariant settles in
    let one = c.from.ensures ∙ byte-one_if c.is_outstanding.result ∙ ap one_if c.is_outstanding.ensures
    ∙ ap (λ (ledger : Ledger). one_if (is_outstanding ledger.first ledger.events c.args.slave)) (sym c.self.view_is) in
    rw c.push.ensures
    (settles_one _ _ c.self.inside.window _ _ _ _ _ _ _ _ c.self.invariant settles (omega (arith, less, one)))
