use Rattle.std.proofs.Common.{refl, arith}
use Rattle.std.proofs.lemmas.Grind.{common_steps}
use Rattle.yp_xdr.proofs.Parts.{sets}
use Rattle.yp_xdr.proofs.put.set_bytes.Goals as goal

pub returns : goal.returns
returns c = sets _ _ _ _ _ c.requires refl (grind (arith, common_steps))
