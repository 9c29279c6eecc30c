use Rattle.std.proofs.Common.{◌≡◌, ℕ, ◌+◌, ◌<◌, ◌≤◌, ◌++◌, List, length, take, drop, slice_get, Ok, Some, subst, arith}
use Rattle.std.proofs.lemmas.List.{length-map, take_all}
use Rattle.std.proofs.lemmas.List.FromFn.{length-enumerate_from}
use Rattle.std.specs.Prelude.{flat_map}
use Rattle.std.specs.List.{enumerate_from}
use Rattle.std.proofs.lemmas.Result.{err_from_is_err_and}
use Rattle.yp_io.specs.declared.stream.Failed.{Failed}
use Rattle.yp_client.specs.inside.query.Printed.{Puts}
use Rattle.yp_client.specs.orders.Lines.{map_line}
use Rattle.yp_client.specs.orders.Asked.{Mastered}
use Rattle.yp_client.specs.inside.orders.Asked.{mastered_view, comparison_view}
use Rattle.yp_client.proofs.query.Putting.{puts_more, puts_stopped}
use Rattle.yp_client.proofs.query.Listing.{flat_map-next, flat_map-split}
use Rattle.yp_client.proofs.orders.Turns.{viewed, numbered}
use Rattle.yp_client.proofs.orders.print.print_lines.Goals as goal

pub returns-in_err-print_line-clause-puts : goal.returns-in_err-print_line-clause-puts
returns-in_err-print_line-clause-puts g c =
    let view = comparison_view c.args.comparison.now in
    let rows = enumerate_from 0 view.survey.maps in
    let text = map_line view in
    let i = c.loop-number.number in
    let map : Mastered = mastered_view c.index.result.now in
    let maps = c.args.comparison.now.survey.maps.items in
    let within : i < length maps = omega arith in
    let there : slice_get rows i ≡ Some (i, map) =
    numbered view.survey.maps i map (viewed mastered_view maps i c.index.result.now within c.index.ensures) in
    let rest = flat_map text (drop (i + 1) rows) in
    let p = err_from_is_err_and c.from_residual.result c.from_residual.ensures.1 in
    rw (flat_map-split text rows i (i, map) there)
    (puts_more (flat_map text (take i rows))
    (text (i, map) ++ rest) c.from_residual.result _ c.loop-number.text _ _ _ _ c.loop-number.invariant.puts
    (puts_stopped (text (i, map)) rest c.from_residual.result p.0 _ _ _ _ p.1 c.in_err-print_line.ensures.puts))

pub loop-number-preserved : goal.loop-number-preserved
loop-number-preserved g c =
    let view = comparison_view c.args.comparison.now in
    let rows = enumerate_from 0 view.survey.maps in
    let text = map_line view in
    let i = c.loop-number.number in
    let map : Mastered = mastered_view c.index.result.now in
    let maps = c.args.comparison.now.survey.maps.items in
    let within : i < length maps = omega arith in
    let there : slice_get rows i ≡ Some (i, map) =
    numbered view.survey.maps i map (viewed mastered_view maps i c.index.result.now within c.index.ensures) in
    let output = g.K.Sink.output in
    record {
      puts = rw (flat_map-next text rows i (i, map) there)
          (puts_more {E = Failed} (flat_map text (take i rows)) (text (i, map))
          (Ok tt) c.args.text.now c.loop-number.text c.print_line.new.text (output c.args.sink.now)
          (output c.loop-number.sink) (output c.print_line.new.sink) c.loop-number.invariant.puts
          c.in_ok-print_line.ensures.puts);
      faults = omega (arith, c.loop-number.invariant.faults, c.in_ok-print_line.ensures.cause.never_falls);
    }

pub returns-clause-puts : goal.returns-clause-puts
returns-clause-puts g c =
    let view = comparison_view c.args.comparison.now in
    let rows = enumerate_from 0 view.survey.maps in
    let text = map_line view in
    let long = length-enumerate_from 0 view.survey.maps in
    let mapped = length-map c.args.comparison.now.survey.maps.items mastered_view in
    let past : length rows ≤ c.loop-number.number = omega (arith, long, mapped) in
    subst (λ (l : List (ℕ × Mastered)). Puts {E = Failed} (flat_map text l) (Ok tt) c.args.text.now c.loop-number.text
    (g.K.Sink.output c.args.sink.now) (g.K.Sink.output c.loop-number.sink))
    (take_all c.loop-number.number rows past) c.loop-number.invariant.puts
