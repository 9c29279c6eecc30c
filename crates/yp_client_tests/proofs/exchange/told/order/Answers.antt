use Rattle.yp_end_to_end.specs.exchange.Told.{told, of_version, order_in}
use Rattle.yp_answer.specs.Maps.{map_check}
use Rattle.yp_client.specs.Limits.{reply_max}
use Rattle.yp_client.specs.Asked.{order_call}
use Rattle.yp_client.specs.Results.{order_of}
use Rattle.yp_client.specs.inside.States.{state_of}
use Rattle.yp_client_tests.proofs.exchange.told.order.Goals as goal

pub returns : goal.returns
returns g c = λ maps peer rest served word next.
    let state = state_of g.S.Source g.K.Sink in
    c.answers_are_told.ensures.number maps peer reply_max (order_call c.args.domain.now c.args.map.now) order_of (told (of_version order_in (map_check maps c.args.domain.now c.args.map.now))) rest c.order.result (state c.args.client.now) (state c.order.new.self) next
    (c.order_tells.ensures maps peer c.args.client.now.xid c.args.domain.now served word c.requires.domain c.args.map.now c.requires.map) c.order.ensures
