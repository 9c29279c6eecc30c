use Rattle.yp_client.specs.Questions.{bytes_of}
use Rattle.yp_client.specs.query.Scenes.{query_tells}
use Rattle.yp_client.proofs.query.Completing.{query_completes}
use Rattle.yp_client.proofs.query.dialed.query.Goals as goal

pub returns-clause-complete : goal.returns-clause-complete
returns-clause-complete g c = λ stream good came dial sink.
    let did = c.ask_and_print in
    query_completes (record { first = c.first_is_one.ensures; rest = c.rest_is_not_whole.ensures })
    c.args.to (bytes_of c.args.question.now) stream
    (query_tells g.A.Dial.past g.A.Dial.faults g.K.Sink.output g.K.Sink.faults c.args.dial.now c.args.sink.now)
    (query_tells g.A.Dial.past g.A.Dial.faults g.K.Sink.output g.K.Sink.faults did.new.dial did.new.sink)
    good came dial sink did.result did.ensures.asks did.ensures.cause
