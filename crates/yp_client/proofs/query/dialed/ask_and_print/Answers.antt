use Rattle.yp_client.specs.Questions.{bytes_of}
use Rattle.yp_client.specs.declared.query.answer.Answer.TheVariants.{Membership}
use Rattle.std.proofs.Common.{false}
use Rattle.yp_client.specs.query.Scenes.{query_tells}
use Rattle.yp_client.proofs.query.Telling.{answer_asks, prints_tells, print_cause}
use Rattle.yp_client.proofs.query.dialed.ask_and_print.Goals as goal

pub returns-in-Ok-clause-asks : goal.returns-in-Ok-clause-asks
returns-in-Ok-clause-asks g c =
    let question = bytes_of c.args.question.now in
    answer_asks c.args.to question c.in-Ok.answer c.print.result
    (query_tells g.A.Dial.past g.A.Dial.faults g.K.Sink.output g.K.Sink.faults c.args.dial.now c.args.sink.now)
    (query_tells g.A.Dial.past g.A.Dial.faults g.K.Sink.output g.K.Sink.faults c.ask_dialed.new.dial c.print.new.sink)
    c.in-Ok.ensures.dials (c.print.ensures.prints question)

pub returns-in-Ok-clause-cause : goal.returns-in-Ok-clause-cause
returns-in-Ok-clause-cause g c =
    let question = bytes_of c.args.question.now in
    print_cause question c.in-Ok.answer c.print.result
    (query_tells g.A.Dial.past g.A.Dial.faults g.K.Sink.output g.K.Sink.faults c.args.dial.now c.args.sink.now)
    (query_tells g.A.Dial.past g.A.Dial.faults g.K.Sink.output g.K.Sink.faults c.ask_dialed.new.dial c.print.new.sink)
    (c.print.ensures.prints question) c.print.ensures.cause

pub returns-in-Ok-clause-tellable : goal.returns-in-Ok-clause-tellable
returns-in-Ok-clause-tellable g c =
    let question = bytes_of c.args.question.now in
    prints_tells question c.in-Ok.answer c.print.result _ _ (c.print.ensures.prints question)

pub returns-in-Err-NotMember-clause-asks : goal.returns-in-Err-NotMember-clause-asks
returns-in-Err-NotMember-clause-asks g c =
    let question = bytes_of c.args.question.now in
    let printed = c.print-in-Err-NotMember in
    answer_asks c.args.to question (Membership false) printed.result
    (query_tells g.A.Dial.past g.A.Dial.faults g.K.Sink.output g.K.Sink.faults c.args.dial.now c.args.sink.now)
    (query_tells g.A.Dial.past g.A.Dial.faults g.K.Sink.output g.K.Sink.faults c.ask_dialed.new.dial printed.new.sink)
    (rw c.in-Err-NotMember.field-0-is at c.in-Err-NotMember.ensures.dials) (printed.ensures.prints question)

pub returns-in-Err-NotMember-clause-cause : goal.returns-in-Err-NotMember-clause-cause
returns-in-Err-NotMember-clause-cause g c =
    let question = bytes_of c.args.question.now in
    let printed = c.print-in-Err-NotMember in
    print_cause question (Membership false) printed.result
    (query_tells g.A.Dial.past g.A.Dial.faults g.K.Sink.output g.K.Sink.faults c.args.dial.now c.args.sink.now)
    (query_tells g.A.Dial.past g.A.Dial.faults g.K.Sink.output g.K.Sink.faults c.ask_dialed.new.dial printed.new.sink)
    (printed.ensures.prints question) printed.ensures.cause

pub returns-in-Err-NotMember-clause-tellable : goal.returns-in-Err-NotMember-clause-tellable
returns-in-Err-NotMember-clause-tellable g c =
    let question = bytes_of c.args.question.now in
    let printed = c.print-in-Err-NotMember in
    prints_tells question (Membership false) printed.result _ _ (printed.ensures.prints question)
