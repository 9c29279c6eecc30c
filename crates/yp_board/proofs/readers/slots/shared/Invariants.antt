use Rattle.std.proofs.Common.{◌≡◌, map, take, option_map}
use Rattle.std.specs.Arc.{arc_value}
use Rattle.yp_board.proofs.readers.slots.shared.Given as goal

abbrev pub invariant-loop-version : goal.invariant-loop-version
invariant-loop-version l =
    map (option_map arc_value) l.copies.items ≡ map (option_map arc_value) (take l.version-index l.versions)
