use Rattle.std.proofs.Common.{map, arith, ◌∙◌}
use Rattle.yp_board.specs.Catalogues.{name_view}
use Rattle.yp_command_serve.proofs.serve.Logging.{no_lines, one_line, more_lines, more_written}
use Rattle.yp_command_serve.specs.serve.Log.{Happened}
use Rattle.yp_command_serve.proofs.serve.log.write_events.Goals as goal

pub loop-event-init : goal.loop-event-init
loop-event-init g c = record {
  written = no_lines (map name_view c.args.names.now) (g.N.Sink.output c.args.notes.now);
  faults = omega arith;
}

pub loop-event-preserved : goal.loop-event-preserved
loop-event-preserved g c =
    let output = g.N.Sink.output in
    let maps = map name_view c.args.names.now in
    let said = c.deref-in-loop-event in
    record {
      written = more_lines maps (output c.args.notes.now) (output c.loop-event.notes) (output c.write_all.new.sink)
          c.loop-event.invariant.written
          (one_line maps (Happened _) (output c.loop-event.notes) (output c.write_all.new.sink) said.result.now
          (said.ensures.0 ∙ c.event_line.ensures) c.in_ok-write_all.ensures.whole);
      faults = omega (arith, c.loop-event.invariant.faults, c.in_ok-write_all.ensures.cause.never_falls);
    }

pub returns-clause-written : goal.returns-clause-written
returns-clause-written g c =
    let output = g.N.Sink.output in
    more_written (map name_view c.args.names.now) (output c.args.notes.now) (output c.loop-event.notes)
    (output c.write_more.new.notes) c.write_more.result c.loop-event.invariant.written c.write_more.ensures.written
