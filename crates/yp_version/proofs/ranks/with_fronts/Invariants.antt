-- How many rows have been looked at.
use Rattle.std.proofs.Common.{◌≡◌, take, map}
use Rattle.yp_version.specs.inside.Ranks.{ranked_at}
use Rattle.yp_version.proofs.ranks.with_fronts.Given as goal

abbrev pub invariant-loop-place : goal.invariant-loop-place
invariant-loop-place l = l.ranked.items ≡ map (ranked_at l.bytes) (take l.place-index l.places)
