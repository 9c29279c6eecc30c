use Rattle.std.proofs.Common.{◌≤◌, ◌<◌, ◌-◌, ◌+◌, length}
use Rattle.std.specs.Io.KnownBytes.{Consumes}
use Rattle.yp_io.proofs.whole.read_all.Given as goal

abbrev pub invariant-loop-text : goal.invariant-loop-text
invariant-loop-text g l = record {
  read : Consumes (g.S.Source.input l.initial.source) (g.S.Source.input l.source) l.text.items;
  limit : length l.text.items ≤ l.most;
  room : 0 < length l.buf;
  never_falls : g.S.Source.faults l.initial.source ≤ g.S.Source.faults l.source;
}

abbrev pub decreases-loop-text : goal.decreases-loop-text
decreases-loop-text g l = l.most + 1 - length l.text.items
