use Rattle.yp_binding.proofs.portmap.Putting.{joined}
use Rattle.yp_binding.proofs.portmap.mapping.MappingMessage.set.Goals as goal

pub returns : goal.returns
returns c = joined c.set_u32-at.ensures (joined c.set_u32-at-2.ensures (joined c.set_u32-at-3.ensures c.set_u32.ensures))
