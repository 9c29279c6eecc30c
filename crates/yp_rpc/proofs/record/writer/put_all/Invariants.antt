-- How far `put_all` has come.
use Rattle.std.proofs.Common.{◌≤◌, length}
use Rattle.yp_rpc.proofs.Holding.{HasPut}
use Rattle.yp_rpc.proofs.record.writer.put_all.Given as goal

abbrev pub invariant-loop-rest : goal.invariant-loop-rest
invariant-loop-rest g l = record {
  so_far : HasPut (g.K.Sink.output l.fn.sink) (g.K.Sink.output l.sink) l.fn.batch l.batch l.piece l.rest;
  never_fell : g.K.Sink.faults l.fn.sink ≤ g.K.Sink.faults l.sink;
}

abbrev pub decreases-loop-rest : goal.decreases-loop-rest
decreases-loop-rest g l = length l.rest
