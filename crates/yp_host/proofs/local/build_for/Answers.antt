use Rattle.std.proofs.Common.{ap}
use Rattle.yp_board.specs.Catalogues.{Catalogue}
use Rattle.yp_host.proofs.Building.{if_ok, follows_at}
use Rattle.yp_host.proofs.local.build_for.Goals as goal

pub returns-clause-follows : goal.returns-clause-follows
returns-clause-follows g c =
    let own = ap (λ (k : Catalogue). k.own) c.of-task.ensures.catalogue in
    if_ok c.build_anew.result
    (λ version follows. follows_at version _ _ _ c.args.job.map _ (rw c.of-task.ensures.shown at follows) own c.shown-kept.ensures.kept)
    c.build_anew.ensures.follows
