use Rattle.std.proofs.Common.{arith}
use Rattle.yp_binding.proofs.portmap.Differing.{none_differ, none_few}
use Rattle.yp_binding.proofs.portmap.registry.Registry.new.Goals as goal

pub invariant_of-result : goal.invariant_of-result
invariant_of-result c =
    let e = c.in-Ok.ensures.items in
    (none_few c.in-Ok.mappings.items e, omega (arith, c.in-Ok.ensures.exact), none_differ c.in-Ok.mappings.items e)
