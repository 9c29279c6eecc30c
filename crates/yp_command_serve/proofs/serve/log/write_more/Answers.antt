use Rattle.std.proofs.Common.{map, ◌∙◌}
use Rattle.yp_board.specs.Catalogues.{name_view}
use Rattle.yp_command_serve.specs.serve.Log.{More}
use Rattle.yp_command_serve.proofs.serve.Logging.{line_written}
use Rattle.yp_command_serve.proofs.serve.log.write_more.Goals as goal

pub returns-clause-written : goal.returns-clause-written
returns-clause-written g c =
    let output = g.N.Sink.output in
    line_written (map name_view c.args.names.now) (More c.args.count) (output c.args.notes.now)
    (output c.write_all.new.sink) c.deref.result.now c.write_all.result (c.deref.ensures.0 ∙ c.more_line.ensures)
    c.write_all.ensures.whole
