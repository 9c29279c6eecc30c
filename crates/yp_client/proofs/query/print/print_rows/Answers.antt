use Rattle.std.proofs.Common.{◌≡◌, ◌+◌, ◌++◌, sym, take, drop, slice_get, Ok, Some, arith}
use Rattle.std.proofs.lemmas.Result.{err_from_is_err_and}
use Rattle.yp_io.specs.declared.stream.Failed.{Failed}
use Rattle.yp_version.specs.Rows.{Row}
use Rattle.yp_client.specs.query.Lines.{row_line, rows_text}
use Rattle.yp_client.proofs.query.Putting.{puts_more, puts_stopped}
use Rattle.yp_client.proofs.query.Listing.{flat_map-next, flat_map-split}
use Rattle.yp_client.proofs.query.print.print_rows.Goals as goal

pub returns-in_err-print_row-clause-puts : goal.returns-in_err-print_row-clause-puts
returns-in_err-print_row-clause-puts g c =
    let rows = c.args.version.now.rows in
    let keyed = c.args.keyed in
    let i = c.loop-i.i in
    let row : Row = (c.in-Some.key.now, c.in-Some.value.now) in
    let there : slice_get rows i ≡ Some row = sym c.in-Some.ensures.row in
    let rest = rows_text keyed (drop (i + 1) rows) in
    let p = err_from_is_err_and c.from_residual.result c.from_residual.ensures.1 in
    rw (flat_map-split (row_line keyed) rows i row there)
    (puts_more (rows_text keyed (take i rows))
    (row_line keyed row ++ rest) c.from_residual.result _ c.loop-i.text _ _ _ _ c.loop-i.invariant.puts
    (puts_stopped (row_line keyed row) rest c.from_residual.result p.0 _ _ _ _ p.1 c.in_err-print_row.ensures.puts))

pub loop-i-preserved : goal.loop-i-preserved
loop-i-preserved g c =
    let rows = c.args.version.now.rows in
    let keyed = c.args.keyed in
    let i = c.loop-i.i in
    let row : Row = (c.in-Some.key.now, c.in-Some.value.now) in
    let there : slice_get rows i ≡ Some row = sym c.in-Some.ensures.row in
    let output = g.K.Sink.output in
    record {
      puts = rw (flat_map-next (row_line keyed) rows i row there)
          (puts_more {E = Failed} (rows_text keyed (take i rows)) (row_line keyed row)
          (Ok tt) c.args.text.now c.loop-i.text c.print_row.new.text (output c.args.sink.now)
          (output c.loop-i.sink)
          (output c.print_row.new.sink) c.loop-i.invariant.puts c.in_ok-print_row.ensures.puts);
      faults = omega (arith, c.loop-i.invariant.faults, c.in_ok-print_row.ensures.cause.never_falls);
    }
