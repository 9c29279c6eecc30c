use Rattle.yp_xdr.specs.Spelling.{opaque, fixed}
use Rattle.yp_rpc.proofs.call.write_call.Goals as goal

pub returns-clause-written : goal.returns-clause-written
unfolding opaque fixed
returns-clause-written c = c.put_words.ensures
