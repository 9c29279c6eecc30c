use Rattle.std.proofs.Common.{◌≡◌, ◌++◌}
use Rattle.yp_client.specs.orders.Lines.{comparison_text}
use Rattle.yp_client.specs.inside.orders.Asked.{comparison_view}
use Rattle.yp_client.proofs.query.Putting.{front_behind}
use Rattle.yp_client.proofs.orders.print.print.Goals as goal

pub returns-in-Err-end-clause-prints : goal.returns-in-Err-end-clause-prints
returns-in-Err-end-clause-prints g c =
    let put = c.in-Ok.ensures.puts in
    let waits = c.print_lines.new.text in
    let whole : comparison_text (comparison_view c.args.comparison.now) ≡ put.0 ++ waits = rw c.in_ok-text.ensures at put.2 in
    rw whole (front_behind put.0 waits _ _ _ put.1 c.in-Err-end.ensures.front)
