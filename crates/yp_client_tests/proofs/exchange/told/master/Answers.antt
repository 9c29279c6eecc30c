use Rattle.std.proofs.Common.{refl}
use Rattle.yp_end_to_end.specs.exchange.Told.{told, of_version, master_in}
use Rattle.yp_answer.specs.Maps.{map_check}
use Rattle.yp_client.specs.Limits.{reply_max}
use Rattle.yp_client.specs.Asked.{master_call}
use Rattle.yp_client.specs.Results.{master_of}
use Rattle.yp_client.specs.inside.States.{state_of}
use Rattle.yp_client_tests.proofs.exchange.told.master.Goals as goal

pub returns : goal.returns
returns g c =
    let state = state_of g.S.Source g.K.Sink in (
      (
        refl,
        λ _. tt,
        λ maps peer rest served word next.
            c.answers_are_told.ensures.bytes maps peer reply_max (master_call c.args.domain.now c.args.map.now) master_of (told (of_version master_in (map_check maps c.args.domain.now c.args.map.now))) rest c.master.result (state c.args.client.now) (state c.master.follows.lender-at-none) next
            (c.master_tells.ensures maps peer c.args.client.now.xid c.args.domain.now served word c.requires.domain c.args.map.now c.requires.map) c.master.follows.holds-at-none,
      ),
      tt,
    )
