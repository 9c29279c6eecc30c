use Rattle.std.proofs.Common.{◌≡◌, ◌++◌, ℕ, List, map, drop}
use Rattle.yp_netgroup.specs.inside.Member.{part_of}
use Rattle.yp_netgroup.specs.Parts.{names}
use Rattle.yp_netgroup.specs.inside.reverse.Links.{sources, under}
use Rattle.yp_netgroup.proofs.reverse.links.put_names.Given as goal

abbrev pub invariant-loop-member : goal.invariant-loop-member
invariant-loop-member l =
    (other : List ℕ) → under l.links other ++ sources other (map (λ name. (name, l.group)) (names (map part_of (drop l.member-index l.members))))
    ≡ under l.initial.links other ++ sources other (map (λ name. (name, l.group)) (names (map part_of l.members)))
