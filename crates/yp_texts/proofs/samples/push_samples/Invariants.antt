use Rattle.std.proofs.Common.{◌≡◌, ◌-◌, ◌≤◌, length}
use Rattle.yp_version.specs.Drafts.{draft_len, with_rows}
use Rattle.yp_texts.specs.Samples.{samples}
use Rattle.yp_texts.specs.inside.Samples.{samples_len}
use Rattle.yp_texts.proofs.samples.push_samples.Given as goal

abbrev pub invariant-loop-i : goal.invariant-loop-i
invariant-loop-i l = record {
  rows : length l.into.rows ≤ l.i;
  body : draft_len l.into ≤ samples_len l.i;
  left : with_rows l.initial.into (samples 0 l.start l.n) ≡ with_rows l.into (samples l.i l.x (l.n - l.i));
}
