use Rattle.std.proofs.Common.{map, arith}
use Rattle.yp_board.specs.Catalogues.{name_view}
use Rattle.yp_command_serve.proofs.serve.Logging.{more_lines}
use Rattle.yp_command_serve.proofs.serve.log.keep_log.Goals as goal

pub returns-then-has_ended-clause-written : goal.returns-then-has_ended-clause-written
returns-then-has_ended-clause-written g c =
    let output = g.N.Sink.output in
    more_lines (map name_view c.args.names.now) (output c.args.notes) (output c.loop.notes)
    (output c.write_events.new.notes) c.loop.invariant.written c.in_default.ensures.written

pub loop-preserved : goal.loop-preserved
loop-preserved g c =
    let output = g.N.Sink.output in
    record {
      next = tt;
      finite = tt;
      written = more_lines (map name_view c.args.names.now) (output c.args.notes) (output c.loop.notes)
          (output c.write_events.new.notes) c.loop.invariant.written c.in_default.ensures.written;
      faults = omega (arith, c.loop.invariant.faults, c.in_default.ensures.cause.never_falls);
    }
