-- How far `skip` has come.
use Rattle.std.proofs.Common.{◌+◌, ◌-◌, ◌≤◌, cond}
use Rattle.yp_client.specs.Limits.{all_max}
use Rattle.yp_client.specs.inside.Windows.{progress}
use Rattle.yp_client.proofs.Waiting.{Skips}
use Rattle.yp_client.proofs.all.AllReply.skip.Given as goal

abbrev pub invariant-loop-self : goal.invariant-loop-self
invariant-loop-self g l = record {
  skipped : Skips (progress (g.S.Source.input l.fn.source) l.fn.reader l.fn.self.whole)
      (progress (g.S.Source.input l.source) l.reader l.self.whole) l.self.at;
  never_fell : g.S.Source.faults l.fn.source ≤ g.S.Source.faults l.source;
}

abbrev pub decreases-loop-self : goal.decreases-loop-self
decreases-loop-self g l = all_max - l.self.at + cond l.self.whole 0 1
