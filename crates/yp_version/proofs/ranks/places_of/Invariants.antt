-- How many places have been taken.
use Rattle.std.proofs.Common.{◌≡◌, take, map}
use Rattle.yp_version.proofs.ranks.places_of.Given as goal

abbrev pub invariant-loop-row : goal.invariant-loop-row
invariant-loop-row l = l.places.items ≡ map (λ row. row.place) (take l.row-index l.ranked)
