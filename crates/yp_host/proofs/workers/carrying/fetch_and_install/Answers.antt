use Rattle.std.proofs.Common.{Ok, Err, refl, ap, ◌∙◌, option_map}
use Rattle.yp_board.specs.Catalogues.{name_view}
use Rattle.yp_answer.specs.inside.Transfer.{taken_view}
use Rattle.yp_host.proofs.workers.Stating.{fetched_as}
use Rattle.yp_host.proofs.workers.carrying.fetch_and_install.Goals as goal

pub returns-in-Some-Err-clause-status : goal.returns-in-Some-Err-clause-status
returns-in-Some-Err-clause-status g c =
    fetched_as g.S.Site.catalogue g.S.Supplies.hosts (taken_view c.args.job.now) (name_view c.name.result.now)
    c.order_of.result (Err c.in-Some-Err.fault) c.without-in-Some-Err.result.stat _ _ _ _
    (rw (← c.requires.catalogue, ← c.catalog.ensures) c.name.ensures.name)
    (c.order_of.ensures ∙ ap (option_map (λ version. version.order)) c.held.ensures)
    (λ none. let is = c.in-Some-Err.ensures.none.1 none in absurd cc)
    (rw c.in-Some-Err.field-0-is at c.in-Some-Err.ensures.fetches)
    (ap (λ r. r.stat) c.without-in-Some-Err.ensures ∙ c.stat.ensures, refl)

pub returns-in-Some-Ok-clause-status : goal.returns-in-Some-Ok-clause-status
returns-in-Some-Ok-clause-status g c =
    fetched_as g.S.Site.catalogue g.S.Supplies.hosts (taken_view c.args.job.now) (name_view c.name.result.now)
    c.order_of.result (Ok c.in-Some-Ok.version) c.install_for.result.stat _ _ _ _
    (rw (← c.requires.catalogue, ← c.catalog.ensures) c.name.ensures.name)
    (c.order_of.ensures ∙ ap (option_map (λ version. version.order)) c.held.ensures)
    (λ none. let is = c.in-Some-Ok.ensures.none.1 none in absurd cc)
    (rw c.in-Some-Ok.field-0-is at c.in-Some-Ok.ensures.fetches)
    c.install_for.ensures.status
