use Rattle.std.proofs.Common.{◌≡◌, map, take}
use Rattle.yp_netgroup.specs.inside.Seen.{names_of}
use Rattle.yp_netgroup.proofs.search.copied.Given as goal

abbrev pub invariant-loop-name : goal.invariant-loop-name
invariant-loop-name l = map (λ name. name.items) l.copies.items ≡ take l.name-index (names_of l.seen)
