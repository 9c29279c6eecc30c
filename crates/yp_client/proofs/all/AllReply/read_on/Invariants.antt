-- How far `read_on` has come.
use Rattle.std.proofs.Common.{◌+◌, ◌-◌, ◌≤◌, cond, length}
use Rattle.yp_client.specs.inside.Windows.{progress}
use Rattle.yp_client.proofs.Waiting.{ReadsOn}
use Rattle.yp_client.proofs.all.AllReply.read_on.Given as goal

abbrev pub invariant-loop-self : goal.invariant-loop-self
invariant-loop-self g l = record {
  read : ReadsOn l.fn.self l.self l.fn.buf l.buf (progress (g.S.Source.input l.fn.source) l.fn.reader l.fn.self.whole)
      (progress (g.S.Source.input l.source) l.reader l.self.whole);
  never_fell : g.S.Source.faults l.fn.source ≤ g.S.Source.faults l.source;
}

abbrev pub decreases-loop-self : goal.decreases-loop-self
decreases-loop-self g l = length l.buf - l.self.end + cond l.self.whole 0 1
