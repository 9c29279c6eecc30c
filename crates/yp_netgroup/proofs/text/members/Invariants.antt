use Rattle.std.proofs.Common.{◌≡◌, ◌++◌, length, map}
use Rattle.yp_netgroup.specs.Parts.{parts}
use Rattle.yp_netgroup.specs.inside.Member.{part_of}
use Rattle.yp_netgroup.proofs.text.members.Given as goal

abbrev pub invariant-loop-member : goal.invariant-loop-member
invariant-loop-member l = map part_of l.members.items ++ parts l.rest ≡ parts l.text

abbrev pub decreases-loop-member : goal.decreases-loop-member
decreases-loop-member l = length l.rest
