use Rattle.yp_host.specs.workers.Desks.{texts_alone}
use Rattle.yp_host.proofs.workers.Causing.{made_later}
use Rattle.yp_host.proofs.workers.making.make_shared.Goals as goal

pub returns-in-Some-clause-made : goal.returns-in-Some-clause-made
returns-in-Some-clause-made g c =
    made_later (texts_alone g.S.Supplies.text) g.S.Site.catalogue c.args.job c.in-Some.stat _ _ _ c.rounds.invariant.learned.grown
    c.in-Some.ensures.made
