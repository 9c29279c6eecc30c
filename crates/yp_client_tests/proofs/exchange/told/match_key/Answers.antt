use Rattle.std.proofs.Common.{refl}
use Rattle.yp_end_to_end.specs.exchange.Told.{told, of_version, value_in}
use Rattle.yp_answer.specs.Maps.{row_check}
use Rattle.yp_client.specs.Limits.{reply_max}
use Rattle.yp_client.specs.Asked.{match_call}
use Rattle.yp_client.specs.Results.{value_of}
use Rattle.yp_client.specs.inside.States.{state_of}
use Rattle.yp_client_tests.proofs.exchange.told.match_key.Goals as goal

pub returns : goal.returns
returns g c =
    let state = state_of g.S.Source g.K.Sink in (
      (
        refl,
        λ _. tt,
        λ maps peer rest served word next.
            c.answers_are_told.ensures.bytes maps peer reply_max (match_call c.args.domain.now c.args.map.now c.args.key.now) value_of (told (of_version (value_in c.args.key.now) (row_check maps peer.port c.args.domain.now c.args.map.now))) rest c.match_key.result (state c.args.client.now) (state c.match_key.follows.lender-at-none) next
            (c.match_tells.ensures maps peer c.args.client.now.xid c.args.domain.now served word c.requires.domain c.args.map.now c.requires.map c.args.key.now c.requires.key) c.match_key.follows.holds-at-none,
      ),
      tt,
    )
