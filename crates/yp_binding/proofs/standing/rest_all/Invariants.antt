use Rattle.std.proofs.Common.{◌≡◌, ◌++◌, map, take, drop}
use Rattle.yp_binding.specs.inside.Standings.{rested}
use Rattle.yp_binding.proofs.standing.rest_all.Given as goal

abbrev pub invariant-loop-standing : goal.invariant-loop-standing
invariant-loop-standing l =
    l.standing-items
    ≡ map rested (take l.standing-index l.initial.standing-items) ++ drop l.standing-index l.initial.standing-items
