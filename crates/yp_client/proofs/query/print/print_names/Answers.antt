use Rattle.std.proofs.Common.{◌+◌, ◌++◌, sym, take, drop, Ok, arith}
use Rattle.std.proofs.lemmas.Result.{err_from_is_err_and}
use Rattle.yp_io.specs.declared.stream.Failed.{Failed}
use Rattle.yp_client.specs.query.Lines.{line, lines}
use Rattle.yp_client.proofs.query.Putting.{puts_more, puts_stopped}
use Rattle.yp_client.proofs.query.Listing.{flat_map-next, flat_map-split}
use Rattle.yp_client.proofs.query.print.print_names.Goals as goal

pub returns-in_err-put_line-clause-puts : goal.returns-in_err-put_line-clause-puts
returns-in_err-put_line-clause-puts g c =
    let names = c.args.names.now in
    let i = c.loop-i.i in
    let name = c.in-Some.name.now in
    let rest = lines (drop (i + 1) names) in
    let p = err_from_is_err_and c.from_residual.result c.from_residual.ensures.1 in
    rw (flat_map-split line names i name (sym c.in-Some.ensures))
    (puts_more (lines (take i names))
    (line name ++ rest) c.from_residual.result _ c.loop-i.text _ _ _ _ c.loop-i.invariant.puts
    (puts_stopped (line name) rest c.from_residual.result p.0 _ _ _ _ p.1 c.in_err-put_line.ensures.puts))

pub loop-i-preserved : goal.loop-i-preserved
loop-i-preserved g c =
    let names = c.args.names.now in
    let i = c.loop-i.i in
    let name = c.in-Some.name.now in
    let output = g.K.Sink.output in
    record {
      puts = rw (flat_map-next line names i name (sym c.in-Some.ensures))
          (puts_more {E = Failed} (lines (take i names)) (line name)
          (Ok tt) c.args.text.now c.loop-i.text c.put_line.new.self (output c.args.sink.now)
          (output c.loop-i.sink)
          (output c.put_line.new.sink) c.loop-i.invariant.puts c.in_ok-put_line.ensures.puts);
      faults = omega (arith, c.loop-i.invariant.faults, c.in_ok-put_line.ensures.cause.never_falls);
    }
