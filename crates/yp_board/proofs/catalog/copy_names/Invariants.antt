use Rattle.std.proofs.Common.{◌≡◌, map, take}
use Rattle.yp_board.specs.Catalogues.{name_view}
use Rattle.yp_board.proofs.catalog.copy_names.Given as goal

abbrev pub invariant-loop-name : goal.invariant-loop-name
invariant-loop-name l = map name_view l.copies.items ≡ map name_view (take l.name-index l.names)
