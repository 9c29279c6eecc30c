use Rattle.std.proofs.Common.{◌≡◌, map, take, option_map}
use Rattle.std.specs.Arc.{arc_value}
use Rattle.yp_board.specs.Logs.{starts}
use Rattle.yp_board.proofs.plain.begun.Given as goal

abbrev pub invariant-loop-map : goal.invariant-loop-map
invariant-loop-map l = l.log ≡ starts 0 (take l.map (map (option_map arc_value) l.start))
