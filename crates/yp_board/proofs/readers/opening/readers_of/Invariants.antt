use Rattle.std.proofs.Common.{◌≡◌, All}
use Rattle.std.specs.Vec.{vec_len}
use Rattle.std.specs.Arc.{arc_value}
use Rattle.yp_board.proofs.readers.opening.readers_of.Given as goal

abbrev pub invariant-loop : goal.invariant-loop
invariant-loop g l =
    (vec_len l.readers ≡ l.counter)
    × All (λ reader. reader ≡ record { catalogue = arc_value l.catalog; known = l.writer.log; asked = 0 })
    l.readers.items
