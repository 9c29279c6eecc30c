use Rattle.std.proofs.Common.{arith}
use Rattle.yp_binding.proofs.portmap.Putting.{joined, front_set}
use Rattle.yp_binding.proofs.portmap.registry.put_mapping.Goals as goal

pub returns-clause-put : goal.returns-clause-put
returns-clause-put c =
    front_set _ c.args.buf.now c.set.new.buf c.args.at c.set.result (joined c.set_bool-at.ensures c.set.ensures) (omega (arith, c.requires))
