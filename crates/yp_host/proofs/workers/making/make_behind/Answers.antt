use Rattle.std.proofs.Common.{◌≤◌, ap, sym, arith, ◌∙◌}
use Rattle.yp_texts.specs.Builds.{order_max}
use Rattle.yp_host.specs.workers.Desks.{texts_alone}
use Rattle.yp_host.proofs.workers.Causing.{unmade, built_there, shown_last, unfit, overtaken}
use Rattle.yp_host.proofs.workers.Charging.{charged_so}
use Rattle.yp_host.proofs.workers.making.make_behind.Goals as goal

pub returns-in-Err-clause-made : goal.returns-in-Err-clause-made
returns-in-Err-clause-made g c =
    let served = c.of-task.ensures.catalogue ∙ c.requires.catalogue in
    unmade g.S.Supplies.text _ _ _ c.args.job _ c.in-Err.stat
    (rw (served, c.of-task.ensures.job, c.of-task.ensures.shown, c.of-task.ensures.netgroups, c.requires.catalogue) at c.in-Err.ensures.unbuilt)

pub install_shared-requires-clause-built : goal.install_shared-requires-clause-built
install_shared-requires-clause-built g c =
    let served = c.of-task.ensures.catalogue ∙ c.requires.catalogue in
    let below = c.order-order.ensures.version.order in
    let most : c.in-Ok.version.order ≤ order_max = omega (arith, below) in
    built_there c.built_is_built_behind.ensures g.S.Supplies.text g.S.Site.catalogue c.args.job
    (g.B.Reader.View.seen c.args.reader.now).known c.in-Ok.version
    (rw (served, c.of-task.ensures.job, c.of-task.ensures.shown, c.of-task.ensures.netgroups, c.requires.catalogue) at c.in-Ok.ensures.anew) most c.requires.as_named g.S.Accounts.built c.requires.builds

pub returns-in-Ok-install_shared-clause-made : goal.returns-in-Ok-install_shared-clause-made
returns-in-Ok-install_shared-clause-made g c =
    let served = c.of-task.ensures.catalogue ∙ c.requires.catalogue in
    let below = c.order-order.ensures.version.order in
    let most : c.in-Ok.version.order ≤ order_max = omega (arith, below) in
    shown_last c.built_is_built_behind.ensures g.S.Supplies.text g.S.Site.catalogue c.args.job c.in-Ok.version _ _
    (rw (served, c.of-task.ensures.job, c.of-task.ensures.shown, c.of-task.ensures.netgroups, c.requires.catalogue) at c.in-Ok.ensures.anew) most c.in-Ok-install_shared.ensures.shown

pub returns-in-Age-clause-overtaken : goal.returns-in-Age-clause-overtaken
returns-in-Age-clause-overtaken g c =
    let below = c.order-order.ensures.version.order in
    let most : c.in-Ok.version.order ≤ order_max = omega (arith, below) in
    λ none. overtaken g.S.Site.catalogue.own c.args.job.map c.in-Ok.version c.in-Err-install_shared.fault
    (g.B.Reader.View.seen c.args.reader.now).known (g.B.Reader.View.seen c.install_shared.new.reader).known
    (rw c.of-task.ensures.shown at c.in-Ok.ensures.over) most c.in-Err-install_shared.ensures.reason (sym c.stat.ensures ∙ c.in-Age.is)

pub returns : goal.returns
returns g c = record {
  made = rw c.stat.ensures (unfit (texts_alone g.S.Supplies.text) g.S.Site.catalogue c.args.job c.in-Ok.version
      c.in-Err-install_shared.fault _ _ c.in-Err-install_shared.ensures.reason (λ e. c.in_default.not-Age (c.stat.ensures ∙ e)));
  overtaken = λ e. absurd (cc);
  learned = c.install_shared.ensures.learned;
  charged = charged_so c.in-Err-install_shared.fault c.stat.result c.args.charges.now _ _ _ _ _ _ _ _ _
      (c.charges.view_is ∙ c.in-Ok.ensures.charged) c.in-Err-install_shared.ensures.charged c.stat.ensures;
  left = ap (λ h. h.left) (c.charges.view_is ∙ c.in-Ok.ensures.charged);
}
