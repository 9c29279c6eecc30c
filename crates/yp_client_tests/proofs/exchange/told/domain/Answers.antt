use Rattle.std.proofs.Common.{Ok}
use Rattle.yp_board.specs.Catalogues.{serves}
use Rattle.yp_client.specs.Limits.{reply_max}
use Rattle.yp_client.specs.inside.Asked.{domain_call}
use Rattle.yp_client.specs.inside.Results.{served_of}
use Rattle.yp_client.specs.inside.States.{state_of}
use Rattle.yp_client_tests.proofs.exchange.told.domain.Goals as goal

pub returns : goal.returns
returns g c = λ maps peer rest served word next.
    let state = state_of g.S.Source g.K.Sink in
    c.answers_are_told.ensures.truth maps peer reply_max (domain_call c.args.domain.now) served_of (Ok (serves c.args.domain.now maps.catalogue)) rest c.domain.result (state c.args.client.now) (state c.domain.new.self) next
    (c.domain_tells.ensures maps peer c.args.client.now.xid c.args.domain.now served word c.requires) c.domain.ensures
