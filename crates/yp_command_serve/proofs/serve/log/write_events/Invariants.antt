use Rattle.std.proofs.Common.{◌≤◌, map}
use Rattle.yp_board.specs.Catalogues.{name_view}
use Rattle.yp_command_serve.specs.inside.serve.Log.{WritesLines}
use Rattle.yp_command_serve.proofs.serve.log.write_events.Given as goal

abbrev pub invariant-loop-event : goal.invariant-loop-event
invariant-loop-event g l = record {
  written : WritesLines (map name_view l.names) (g.N.Sink.output l.initial.notes) (g.N.Sink.output l.notes);
  faults : g.N.Sink.faults l.initial.notes ≤ g.N.Sink.faults l.notes;
}
