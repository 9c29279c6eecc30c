use Rattle.yp_end_to_end.specs.exchange.Told.{told, names_in}
use Rattle.yp_client.specs.Limits.{reply_max}
use Rattle.yp_client.specs.Asked.{maplist_call}
use Rattle.yp_client.specs.Results.{maps_of}
use Rattle.yp_client.specs.inside.States.{state_of}
use Rattle.yp_client_tests.proofs.exchange.told.maplist.Goals as goal

pub returns : goal.returns
returns g c = λ maps peer rest served word next.
    let state = state_of g.S.Source g.K.Sink in
    c.answers_are_told.ensures.names maps peer reply_max (maplist_call c.args.domain.now) maps_of (told (names_in maps c.args.domain.now)) rest c.maplist.result (state c.args.client.now) (state c.maplist.new.self) next
    (c.maplist_tells.ensures maps peer c.args.client.now.xid c.args.domain.now served word c.requires) c.maplist.ensures
