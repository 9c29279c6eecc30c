use Rattle.std.proofs.Common.{refl}
use Rattle.yp_end_to_end.specs.exchange.Told.{told, of_version}
use Rattle.yp_end_to_end.specs.inside.exchange.Told.{next_in}
use Rattle.yp_answer.specs.Maps.{row_check}
use Rattle.yp_client.specs.Limits.{reply_max}
use Rattle.yp_client.specs.Asked.{next_call}
use Rattle.yp_client.specs.Results.{row_of}
use Rattle.yp_client.specs.inside.States.{state_of}
use Rattle.yp_client_tests.proofs.exchange.told.next.Goals as goal

pub returns : goal.returns
returns g c =
    let state = state_of g.S.Source g.K.Sink in (
      (
        refl,
        λ _. tt,
        λ maps peer rest served word next.
            c.answers_are_told.ensures.row maps peer reply_max (next_call c.args.domain.now c.args.map.now c.args.key.now) row_of (told (of_version (next_in c.args.key.now) (row_check maps peer.port c.args.domain.now c.args.map.now))) rest c.next.result (state c.args.client.now) (state c.next.follows.lender-at-none) next
            (c.next_tells.ensures maps peer c.args.client.now.xid c.args.domain.now served word c.requires.domain c.args.map.now c.requires.map c.args.key.now c.requires.key) c.next.follows.holds-at-none,
      ),
      tt,
    )
