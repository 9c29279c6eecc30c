use Rattle.yp_client.specs.query.Scenes.{query_tells}
use Rattle.yp_client.proofs.orders.Telling.{compares_counts, compares_tells, compares_cause}
use Rattle.yp_client.proofs.orders.Completing.{compares_complete}
use Rattle.yp_client.proofs.orders.dialed.compare_orders.Goals as goal

pub returns-clause-cause : goal.returns-clause-cause
returns-clause-cause g c =
    let tells = query_tells g.A.Dial.past g.A.Dial.faults g.K.Sink.output g.K.Sink.faults in
    let did = c.ask_and_print in
    compares_cause c.args.first c.args.others.now c.args.domain.now (tells c.args.dial.now c.args.sink.now)
    (tells did.new.dial did.new.sink) did.result did.ensures.compares did.ensures.output

pub returns-clause-tellable : goal.returns-clause-tellable
returns-clause-tellable g c =
    let tells = query_tells g.A.Dial.past g.A.Dial.faults g.K.Sink.output g.K.Sink.faults in
    let did = c.ask_and_print in
    compares_tells c.args.first c.args.others.now c.args.domain.now (tells c.args.dial.now c.args.sink.now)
    (tells did.new.dial did.new.sink) did.result did.ensures.compares

pub returns-clause-dial_faults : goal.returns-clause-dial_faults
returns-clause-dial_faults g c =
    let tells = query_tells g.A.Dial.past g.A.Dial.faults g.K.Sink.output g.K.Sink.faults in
    let did = c.ask_and_print in
    compares_counts c.args.first c.args.others.now c.args.domain.now (tells c.args.dial.now c.args.sink.now)
    (tells did.new.dial did.new.sink) did.result did.ensures.compares

pub returns-clause-complete : goal.returns-clause-complete
returns-clause-complete g c = λ maps stream streams good has come dial sink.
    let tells = query_tells g.A.Dial.past g.A.Dial.faults g.K.Sink.output g.K.Sink.faults in
    let did = c.ask_and_print in
    let old = tells c.args.dial.now c.args.sink.now in
    let new = tells did.new.dial did.new.sink in
    compares_complete (record { first = c.first_is_one.ensures; rest = c.rest_is_not_whole.ensures })
    c.args.first c.args.others.now c.args.domain.now maps stream streams old new good has come dial sink did.result
    did.ensures.compares
    (compares_cause c.args.first c.args.others.now c.args.domain.now old new did.result did.ensures.compares
    did.ensures.output)
