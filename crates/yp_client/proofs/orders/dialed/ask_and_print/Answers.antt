use Rattle.std.proofs.lemmas.Result.{err_from_is_err_and}
use Rattle.yp_io.specs.Dials.{dialing_of}
use Rattle.yp_client.specs.query.Scenes.{query_tells}
use Rattle.yp_client.proofs.orders.Telling.{compares_none}
use Rattle.yp_client.proofs.orders.dialed.ask_and_print.Goals as goal

pub returns-in_err-comparison-clause-compares : goal.returns-in_err-comparison-clause-compares
returns-in_err-comparison-clause-compares g c =
    let p = err_from_is_err_and c.from_residual.result c.from_residual.ensures.1 in
    compares_none c.args.first c.args.others.now c.args.domain.now c.from_residual.result p.0 c.in_err-comparison.field-0.0
    (query_tells g.A.Dial.past g.A.Dial.faults g.K.Sink.output g.K.Sink.faults c.args.dial.now c.args.sink.now)
    (dialing_of g.A.Dial.past g.A.Dial.faults c.ask_servers.new.dial) p.1 p.2 c.in_err-comparison.ensures.asks
