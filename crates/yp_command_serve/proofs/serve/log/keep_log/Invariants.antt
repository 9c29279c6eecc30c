use Rattle.std.proofs.Common.{◌≤◌, map}
use Rattle.yp_board.specs.Catalogues.{name_view}
use Rattle.yp_command_serve.specs.inside.serve.Log.{WritesLines}
use Rattle.yp_command_serve.proofs.serve.log.keep_log.Given as goal

abbrev pub invariant-loop : goal.invariant-loop
invariant-loop g l = record {
  next : (goal.iterator-loop g).can_next l.iterator';
  finite : (goal.iterator-loop g).is_finite l.iterator';
  written : WritesLines (map name_view l.names) (g.N.Sink.output l.initial.notes) (g.N.Sink.output l.notes);
  faults : g.N.Sink.faults l.initial.notes ≤ g.N.Sink.faults l.notes;
}
