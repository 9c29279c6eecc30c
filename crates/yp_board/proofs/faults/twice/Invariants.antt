use Rattle.std.proofs.Common.{◌≡◌, [], map, take, drop}
use Rattle.yp_board.specs.Catalogues.{name_view}
use Rattle.yp_board.specs.inside.Catalogues.{again_from}
use Rattle.yp_board.proofs.faults.twice.Given as goal

abbrev pub invariant-loop-index : goal.invariant-loop-index
invariant-loop-index l =
    let names = map name_view l.names in
    again_from l.index (take l.index names) (drop l.index names) ≡ again_from 0 [] names
