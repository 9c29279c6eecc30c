use Rattle.std.proofs.Common.{◌≡◌, map, take}
use Rattle.yp_board.specs.Catalogues.{name_view}
use Rattle.yp_command.proofs.further.map_names.Given as goal

abbrev pub invariant-loop-store : goal.invariant-loop-store
invariant-loop-store l =
    map name_view l.names.items ≡ map (λ store. (store.0.now, store.1.now)) (take l.store-index l.stores)
