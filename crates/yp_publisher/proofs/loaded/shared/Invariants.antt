use Rattle.std.proofs.Common.{◌≡◌, map, take, option_map}
use Rattle.std.specs.Arc.{arc_value}
use Rattle.yp_publisher.specs.Standing.{versions}
use Rattle.yp_publisher.proofs.loaded.shared.Given as goal

abbrev pub invariant-loop-stored : goal.invariant-loop-stored
invariant-loop-stored g l = map (option_map arc_value) l.shown.items ≡ versions (take l.stored-index l.maps)
