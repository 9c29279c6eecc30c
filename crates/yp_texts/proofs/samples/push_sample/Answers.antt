use Rattle.std.proofs.Common.{◌≡◌, ◌+◌, ◌∙◌}
use Rattle.yp_texts.specs.Samples.{sample_value}
use Rattle.yp_texts.proofs.Sampling.{sample-ok, sample-err}
use Rattle.yp_texts.proofs.samples.push_sample.Goals as goal

pub returns-clause-body : goal.returns-clause-body
returns-clause-body c =
    let value : c.as_slice.result.now ≡ sample_value c.args.i = c.as_slice.ensures.value
    ∙ c.in_ok-sample_value.ensures in
    sample-ok c.push_row.result c.args.into.now c.push_row.new.into c.args.i c.args.x c.requires.place c.requires.body
    (rw (c.sample_key.ensures, value) at c.push_row.ensures.rows)

pub returns-clause-cause : goal.returns-clause-cause
returns-clause-cause c =
    let value : c.as_slice.result.now ≡ sample_value c.args.i = c.as_slice.ensures.value
    ∙ c.in_ok-sample_value.ensures in
    sample-err c.push_row.result c.args.into.now c.push_row.new.into
    (c.args.i + 1) c.args.i c.args.x c.requires.place c.requires.rows c.requires.body
    (rw (c.sample_key.ensures, value) at c.push_row.ensures.stopped)
