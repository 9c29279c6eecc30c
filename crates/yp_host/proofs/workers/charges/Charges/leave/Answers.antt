use Rattle.std.proofs.Common.{◌∷◌, [], ◌∙◌}
use Rattle.yp_host.proofs.workers.Knowing.{one_known, left_stays, left_known}
use Rattle.yp_host.proofs.workers.charges.Charges.leave.Goals as goal

pub invariant_of-self : goal.invariant_of-self
invariant_of-self g c =
    let known = c.longer_of.result in
    let old = c.self.inside.call_backs in
    let new = c.leave.new.pass in
    let one = c.args.call_back in
    let stays = left_stays one old new c.leave.result c.leave.ensures in (
      c.self.invariant.0,
      c.self.invariant.1,
      c.self.invariant.2,
      c.self.invariant.3,
      stays.0 ∙ c.self.invariant.4,
      stays.1 ∙ c.self.invariant.5,
      stays.2 ∙ c.self.invariant.6,
      left_known known one old new c.leave.result c.leave.ensures
          (c.longer_of.ensures.one old.left (rw c.take.ensures.value c.self.invariant.7))
          (c.longer_of.ensures.other (one ∷ []) (rw c.again_of.ensures (one_known _ one c.requires.known))),
    )
