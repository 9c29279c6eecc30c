use Rattle.std.proofs.Common.{◌++◌, ap, ◌∙◌, sym, subst, arith}
use Rattle.std.proofs.lemmas.List.{append-nil}
use Rattle.yp_host.specs.inside.workers.CallBacks.{HeldCallBacks}
use Rattle.yp_host.specs.inside.workers.CallBacks.{AreKnown}
use Rattle.yp_host.proofs.workers.Knowing.{both_known}
use Rattle.yp_host.proofs.workers.charges.Charges.merge.Goals as goal

pub invariant_of-self : goal.invariant_of-self
invariant_of-self g c =
    let known = c.longer_of.result in
    let mine = c.self.inside.call_backs in
    let theirs = c.other.inside.call_backs in
    let same = c.merge-5.ensures.same in
    let some = c.self.invariant.0 in
    let parts = c.merge.ensures.parts in (
      omega (arith, some, parts),
      (let more = c.merge-2.ensures.parts in let a = c.self.invariant.1 in let b = c.other.invariant.1 in
          omega (arith, parts, more, a, b)),
      (let more = c.merge-3.ensures.parts in let a = c.self.invariant.2 in let b = c.other.invariant.2 in
          omega (arith, parts, more, a, b)),
      (let more = ap (λ d. d.parts) c.merge-4.ensures in let a = c.self.invariant.3 in let b = c.other.invariant.3 in
          omega (arith, parts, more, a, b)),
      ap (λ (h : HeldCallBacks). h.queue) same ∙ c.self.invariant.4,
      (let more = c.merge-5.ensures.parts in let a = c.self.invariant.5 in let b = c.other.invariant.5 in
          omega (arith, parts, more, a, b)),
      ap (λ (h : HeldCallBacks). h.took) same ∙ ap (λ l. mine.took ++ l) c.other.invariant.6
          ∙ append-nil mine.took ∙ c.self.invariant.6,
      subst (AreKnown known) (sym (ap (λ (h : HeldCallBacks). h.left) same)) (both_known known mine.left theirs.left
          (c.longer_of.ensures.one mine.left (rw c.take.ensures.value c.self.invariant.7))
          (c.longer_of.ensures.other theirs.left c.other.invariant.7)),
    )
