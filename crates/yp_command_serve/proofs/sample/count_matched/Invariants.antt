use Rattle.std.proofs.Common.{◌≡◌, ◌≤◌, take, count_by}
use Rattle.yp_answer.specs.Maps.{maps_of}
use Rattle.yp_command_serve.specs.Sample.{is_matched}
use Rattle.yp_command_serve.proofs.sample.count_matched.Given as goal

abbrev pub invariant-loop-i : goal.invariant-loop-i
invariant-loop-i l = record {
  count : l.matched ≡ count_by (is_matched (maps_of l.initial.board)) (take l.i l.version.rows);
  maps : maps_of l.board ≡ maps_of l.initial.board;
  few : l.matched ≤ l.i;
}
