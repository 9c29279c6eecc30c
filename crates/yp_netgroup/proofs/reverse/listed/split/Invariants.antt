use Rattle.std.proofs.Common.{◌≡◌, drop}
use Rattle.std.specs.List.{list_any}
use Rattle.yp_version.specs.Rows.{Row}
use Rattle.yp_netgroup.specs.Parts.{parts, triples}
use Rattle.yp_netgroup.specs.inside.reverse.Listed.{is_mixed}
use Rattle.yp_netgroup.proofs.reverse.listed.split.Given as goal

abbrev pub invariant-loop-i : goal.invariant-loop-i
invariant-loop-i l =
    list_any (λ (row : Row). list_any (is_mixed l.field) (triples (parts row.1))) l.netgroup.rows
    ≡ list_any (λ (row : Row). list_any (is_mixed l.field) (triples (parts row.1))) (drop l.i l.netgroup.rows)
