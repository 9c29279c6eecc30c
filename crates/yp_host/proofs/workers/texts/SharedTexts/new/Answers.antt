use Rattle.std.proofs.Common.{arith}
use Rattle.yp_host.proofs.workers.texts.SharedTexts.new.Goals as goal

pub invariant_of-result : goal.invariant_of-result
invariant_of-result g c =
    let none = c.requires.none in
    let before = c.requires.before in
    (c.requires.supplied, λ below. omega (arith, none, before))
