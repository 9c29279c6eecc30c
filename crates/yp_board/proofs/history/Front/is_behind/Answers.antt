use Rattle.std.proofs.Common.{ap, subst}
use mathlib.Core.List.{IsPrefix}
use Rattle.yp_board.proofs.Fronts.{behind_or}
use Rattle.yp_board.proofs.history.Front.is_behind.Goals as goal

pub returns : goal.returns
returns g c =
    let one = c.self.inside in
    let other = c.other.inside in
    let both = c.learn.new.self.log in
    let this : IsPrefix one.seen.log both
    = subst (λ log. IsPrefix log both) (ap (λ s. s.log) c.again-both.ensures) c.learn.ensures.2 in
    rw (← c.self.view_is, ← c.other.view_is)
    (behind_or one.seen.log other.seen.log both one.count other.count c.self.invariant.0 c.other.invariant.0 this
    c.learn.ensures.3)
