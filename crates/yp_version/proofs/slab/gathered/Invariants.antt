-- How many rows are in the slab.
use Rattle.std.proofs.Common.{◌≡◌, take, map}
use Rattle.yp_version.specs.inside.Slabs.{row_from}
use Rattle.yp_version.proofs.slab.gathered.Given as goal

abbrev pub invariant-loop-place : goal.invariant-loop-place
invariant-loop-place l = l.slab ≡ record { head = l.fn.head.items; rows = map (row_from l.bytes) (take l.place-index l.fn.places) }
