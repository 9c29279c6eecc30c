use Rattle.yp_client.specs.Questions.{bytes_of}
use Rattle.yp_client.specs.query.Scenes.{QueryTells, query_tells}
use Rattle.yp_client_tests.proofs.exchange.told.query_told.Goals as goal

pub returns : goal.returns
returns g c =
    let scene = query_tells g.A.Dial.past g.A.Dial.faults g.K.Sink.output g.K.Sink.faults in
    let old : QueryTells = scene c.args.dial.now c.args.sink.now in
    let new : QueryTells = scene c.query.new.dial c.query.new.sink in
    let question = bytes_of c.args.question.now in
    record {
      told = λ first second caller made stream one other answers came.
          c.query_prints_told.ensures first second c.args.to caller made question stream c.query.result old new one other c.requires answers came c.query.ensures.asks;
      run = λ catalogue caller replies rest before after served run came.
          c.run_is_printed.ensures catalogue c.args.to caller question replies rest before after c.query.result old new served c.requires run came c.query.ensures.asks;
      answered = λ first second caller made stream one other replies has came dial sink.
          c.query.ensures.complete stream (c.told_is_answered.ensures first second caller made question stream one other c.requires replies has) came dial sink;
    }
