use Rattle.std.proofs.Common.{refl, arith}
use Rattle.yp_client.specs.inside.States.{state_of, unspent}
use Rattle.yp_client.proofs.dialed.connect.Goals as goal

pub returns-in-Err-new-clause-connects : goal.returns-in-Err-new-clause-connects
returns-in-Err-new-clause-connects g c = (
  state_of g.A.In.Source g.A.Out.Sink (unspent c.in-Err-new.refused.wire 1 0),
  record {
    middle = g.A.Dial.past c.dial.new.self;
    comes = rw c.in-Err-new.ensures c.in-Ok.ensures.came;
    begins = record {
      fresh = rw c.in-Err-new.ensures c.in-Ok.ensures.fresh;
      xid = refl;
      place = refl;
      spent = refl;
    };
    goes_back = c.back.ensures.past;
    counted = omega (arith, c.back.ensures.faults, c.dial.ensures.cause.never_falls);
  },
)
