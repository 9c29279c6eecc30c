use Rattle.std.proofs.Common.{◌≡◌, map, drop}
use Rattle.std.specs.List.{list_any}
use Rattle.yp_netgroup.specs.Parts.{triples}
use Rattle.yp_netgroup.specs.inside.Member.{part_of}
use Rattle.yp_netgroup.specs.inside.reverse.Listed.{is_mixed}
use Rattle.yp_netgroup.proofs.reverse.field.Field.mixes.Given as goal

abbrev pub invariant-loop-member : goal.invariant-loop-member
invariant-loop-member l =
    list_any (is_mixed l.self) (triples (map part_of l.members))
    ≡ list_any (is_mixed l.self) (triples (map part_of (drop l.member-index l.members)))
