use Rattle.yp_end_to_end.proofs.exchange.LookUps.{make_has_response, make_tells}
use Rattle.yp_end_to_end.proofs.exchange.laws.make_tells.Goals as goal

pub returns : goal.returns
returns c =
    let law = c.written_is_read_again.ensures in
    record { response = make_has_response law c.call_is_heard_again.ensures; says = make_tells law }
