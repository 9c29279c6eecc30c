use Rattle.std.proofs.Common.{◌≡◌, drop, map}
use Rattle.yp_version.specs.Drafts.{with_rows, refused_from, first_refused}
use Rattle.yp_command.specs.Words.{row_view}
use Rattle.yp_command_serve.proofs.once.push_rows.Given as goal

abbrev pub invariant-loop-row : goal.invariant-loop-row
invariant-loop-row l = record {
  pushed : with_rows l.builder (map row_view (drop l.row l.rows)) ≡ with_rows l.initial.builder (map row_view l.rows);
  refused : refused_from l.row l.builder (map row_view (drop l.row l.rows)) ≡ first_refused l.initial.builder (map row_view l.rows);
}
