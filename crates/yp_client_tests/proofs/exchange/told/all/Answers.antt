use Rattle.yp_answer.specs.Maps.{row_check}
use Rattle.yp_client.specs.inside.States.{state_of}
use Rattle.yp_end_to_end.specs.inside.exchange.Told.{all_told}
use Rattle.yp_client_tests.proofs.exchange.told.all.Goals as goal

pub returns : goal.returns
returns g c = λ maps peer rest served word room next.
    let state = state_of g.S.Source g.K.Sink in
    let before = c.args.into.now in
    c.answers_are_told.ensures.rows maps peer c.args.domain.now c.args.map.now before c.all.new.into
    (all_told before (row_check maps peer.port c.args.domain.now c.args.map.now)) rest c.all.result (state c.args.client.now) (state c.all.new.self) next
    (c.all_tells.ensures maps peer c.args.client.now.xid c.args.domain.now served word c.requires.domain c.args.map.now c.requires.map before room) c.all.ensures.calls
