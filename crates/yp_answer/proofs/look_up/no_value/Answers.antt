use Rattle.std.proofs.Common.{refl}
use Rattle.yp_xdr.specs.Spelling.{opaque, fixed}
use Rattle.yp_answer.proofs.look_up.no_value.Goals as goal

pub returns-clause-tells : goal.returns-clause-tells
unfolding opaque fixed
returns-clause-tells c = (refl, refl)
