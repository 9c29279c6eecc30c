use Rattle.std.proofs.Common.{◌≡◌, ◌++◌, map, drop, option_map}
use Rattle.std.specs.Arc.{arc_value}
use Rattle.yp_board.specs.Logs.{starts}
use Rattle.yp_board.proofs.readers.opening.begin_all.Given as goal

abbrev pub invariant-loop-map : goal.invariant-loop-map
invariant-loop-map g l =
    let versions = map (option_map arc_value) l.start in
    l.history ++ starts l.map (drop l.map versions) ≡ starts 0 versions
