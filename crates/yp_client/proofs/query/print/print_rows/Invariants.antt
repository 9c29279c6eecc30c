use Rattle.std.proofs.Common.{◌≤◌, take, Ok}
use Rattle.yp_io.specs.declared.stream.Failed.{Failed}
use Rattle.yp_client.specs.query.Lines.{rows_text}
use Rattle.yp_client.specs.inside.query.Printed.{Puts}
use Rattle.yp_client.proofs.query.print.print_rows.Given as goal

abbrev pub invariant-loop-i : goal.invariant-loop-i
invariant-loop-i g l = record {
  puts : Puts {E = Failed} (rows_text l.keyed (take l.i l.version.rows)) (Ok tt) l.initial.text l.text
      (g.K.Sink.output l.initial.sink) (g.K.Sink.output l.sink);
  faults : g.K.Sink.faults l.initial.sink ≤ g.K.Sink.faults l.sink;
}
