use Rattle.std.proofs.Common.{ap, ◌∙◌}
use Rattle.yp_version.specs.Drafts.{Draft, with_rows}
use Rattle.yp_texts.specs.Builds.{finished}
use Rattle.yp_texts.specs.Samples.{samples}
use Rattle.yp_texts.proofs.samples.sample.Goals as goal

pub returns-clause-version : goal.returns-clause-version
returns-clause-version g c =
    let rows = samples 0 c.args.start c.args.n in
    c.indexed.ensures ∙ c.in_ok-finish.ensures
    ∙ ap finished (c.in_ok-push_samples.ensures.rows
    ∙ ap (λ (draft : Draft). with_rows draft rows) c.in_ok-builder.ensures)
