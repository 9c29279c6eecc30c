use Rattle.std.proofs.Common.{◌≡◌, ◌+◌, ◌-◌, ◌<◌, ◌≤◌, length}
use Rattle.yp_answer.specs.inside.Streams.{filled_buffer, PutsParts, item_parts, rows_in}
use Rattle.yp_version.specs.Limits.{rows_max}
use Rattle.yp_answer.specs.inside.Items.{items_view}
use Rattle.yp_answer.specs.declared.stream.TheConstants.{ITEM_MAX}
use Rattle.yp_answer.proofs.stream.put_items.Given as goal

abbrev pub invariant-loop-item : goal.invariant-loop-item
invariant-loop-item l =
    let items = items_view l.items in
    record {
      puts : PutsParts (item_parts items) (filled_buffer l.first l.at l.fn.buf) (filled_buffer l.next l.end l.buf);
      few : l.first < l.next → l.next ≤ rows_max + 1;
      some : l.first < rows_in items → l.at + ITEM_MAX ≤ length l.fn.buf → l.at < l.end;
    }

abbrev pub decreases-loop-item : goal.decreases-loop-item
decreases-loop-item l = length (item_parts (items_view l.items)) - l.next
