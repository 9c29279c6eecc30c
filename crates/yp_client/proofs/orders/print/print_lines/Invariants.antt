use Rattle.std.proofs.Common.{◌≤◌, take, Ok}
use Rattle.std.specs.Prelude.{flat_map}
use Rattle.std.specs.List.{enumerate_from}
use Rattle.yp_io.specs.declared.stream.Failed.{Failed}
use Rattle.yp_client.specs.inside.query.Printed.{Puts}
use Rattle.yp_client.specs.orders.Lines.{map_line}
use Rattle.yp_client.specs.inside.orders.Asked.{comparison_view}
use Rattle.yp_client.proofs.orders.print.print_lines.Given as goal

abbrev pub invariant-loop-number : goal.invariant-loop-number
invariant-loop-number g l =
    let comparison = comparison_view l.comparison in
    record {
      puts : Puts {E = Failed} (flat_map (map_line comparison) (take l.number (enumerate_from 0 comparison.survey.maps)))
          (Ok tt) l.initial.text l.text (g.K.Sink.output l.initial.sink) (g.K.Sink.output l.sink);
      faults : g.K.Sink.faults l.initial.sink ≤ g.K.Sink.faults l.sink;
    }
