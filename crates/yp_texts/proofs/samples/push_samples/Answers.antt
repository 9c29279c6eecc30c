use Rattle.std.proofs.Common.{sym}
use Rattle.yp_version.specs.Drafts.{with_rows}
use Rattle.yp_texts.specs.Samples.{samples}
use Rattle.yp_texts.proofs.Sampling.{samples-left, samples-none}
use Rattle.yp_texts.proofs.samples.push_samples.Goals as goal

pub loop-i-preserved : goal.loop-i-preserved
loop-i-preserved c = record {
  rows = c.in_ok-push_sample.ensures.rows;
  body = c.in_ok-push_sample.ensures.body;
  left = samples-left (with_rows c.args.into.now (samples 0 c.args.start c.args.n))
      c.loop-i.into c.push_sample.new.into c.loop-i.i c.loop-i.x c.number_after-x.result c.args.n c.loop-i-test.true
      c.number_after-x.ensures c.in_ok-push_sample.ensures.row c.loop-i.invariant.left;
}

pub returns-clause-rows : goal.returns-clause-rows
returns-clause-rows c =
    let all = with_rows c.args.into.now (samples 0 c.args.start c.args.n) in
    sym (samples-none all c.loop-i.into c.loop-i.i c.loop-i.x c.args.n c.loop-i-test.false c.loop-i.invariant.left)
