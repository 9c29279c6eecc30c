use Rattle.std.proofs.Common.{◌-◌, ◌<◌, ◌≤◌, length}
use Rattle.yp_answer.specs.inside.Streams.{filled_buffer, PutsParts, row_parts}
use Rattle.yp_answer.proofs.stream.put_rows.Given as goal

abbrev pub invariant-loop-key : goal.invariant-loop-key
invariant-loop-key l = record {
  puts : PutsParts (row_parts l.rows) (filled_buffer l.first l.at l.initial.buf) (filled_buffer l.next l.end l.buf);
  few : l.first < l.next → l.next ≤ length l.rows;
}

abbrev pub decreases-loop-key : goal.decreases-loop-key
decreases-loop-key l = length l.rows - l.next
