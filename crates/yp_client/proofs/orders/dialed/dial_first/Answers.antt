use Rattle.std.proofs.Common.{◌≡◌, Err, subst}
use Rattle.yp_io.specs.Dials.{dialing_of}
use Rattle.yp_client.specs.inside.States.{state_of}
use Rattle.yp_client.specs.orders.Asked.{TellsSurvey}
use Rattle.yp_client.specs.inside.orders.Asked.{told, survey_view}
use Rattle.yp_client.proofs.orders.Turns.{dialed}
use Rattle.yp_client.proofs.orders.Telling.{survey_undialed}
use Rattle.yp_client.proofs.orders.dialed.dial_first.Goals as goal

pub returns-clause-dials : goal.returns-clause-dials
returns-clause-dials g c =
    let state = state_of g.A.In.Source g.A.Out.Sink in
    let dial = dialing_of g.A.Dial.past g.A.Dial.faults in
    let comes = c.in_ok-client.ensures.connects in
    let asked = c.ask_survey-survey in
    dialed (TellsSurvey c.args.domain.now) c.args.to (told survey_view asked.result) (state c.in_ok-client.client)
    (state asked.new.client) (dial c.args.dial.now) (dial c.connect.new.dial) (dial c.back.new.self) comes
    asked.ensures.tells (rw c.into_wire.ensures at c.back.ensures.past) (rw c.into_wire.ensures at c.back.ensures.faults)
    (survey_undialed c.args.domain.now (told survey_view asked.result) (state c.in_ok-client.client)
    (state asked.new.client) comes.begins.spent asked.ensures.tells)
