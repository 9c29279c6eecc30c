use Rattle.std.proofs.Common.{arith}
use Rattle.yp_xdr.proofs.Items.{length-fixed}
use Rattle.yp_xdr.proofs.put.fixed_len.Goals as goal

pub returns-clause-value : goal.returns-clause-value
returns-clause-value c = omega (arith, length-fixed c.args.bytes.now, c.padding_of.ensures.value)
