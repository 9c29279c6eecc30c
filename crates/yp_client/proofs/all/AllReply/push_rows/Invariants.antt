-- How far `push_rows` has come.
use Rattle.std.proofs.Common.{◌+◌, ◌-◌, ◌≤◌, length}
use Rattle.yp_client.specs.Limits.{all_max}
use Rattle.yp_client.specs.inside.All.{Grows}
use Rattle.yp_client.specs.inside.Windows.{waiting, progress, IsUnderway, StandsIn}
use Rattle.yp_client.proofs.Filling.{PushedSoFar}
use Rattle.yp_client.proofs.all.AllReply.push_rows.Given as goal

abbrev pub invariant-loop-self : goal.invariant-loop-self
invariant-loop-self g l = record {
  so_far : PushedSoFar l.fn.into l.into l.fn.self l.self l.fn.buf l.buf
      (progress (g.S.Source.input l.fn.source) l.fn.reader l.fn.self.whole)
      (progress (g.S.Source.input l.source) l.reader l.self.whole);
  underway : IsUnderway (l.self.at + length (waiting l.self l.buf))
      (progress (g.S.Source.input l.source) l.reader l.self.whole);
  kept : Grows l.fn.into l.into;
  few : l.self.rows ≤ l.self.at;
  stands : StandsIn l.self l.buf;
  never_fell : g.S.Source.faults l.fn.source ≤ g.S.Source.faults l.source;
}

abbrev pub decreases-loop-self : goal.decreases-loop-self
decreases-loop-self g l = all_max - l.self.at
