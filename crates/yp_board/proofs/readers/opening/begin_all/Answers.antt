use Rattle.std.proofs.Common.{◌≡◌, ◌<◌, map, length, get_or, option_map, sym, ap, ◌∙◌, arith}
use Rattle.std.specs.Arc.{arc_value}
use Rattle.std.proofs.lemmas.List.{get_or-map, length-map}
use Rattle.yp_board.specs.Logs.{starts}
use Rattle.yp_board.proofs.readers.Starts.{begun_more}
use Rattle.yp_board.proofs.readers.opening.begin_all.Goals as goal

pub loop-map-preserved : goal.loop-map-preserved
loop-map-preserved g c =
    let start = c.args.start.now in
    let versions = map (option_map arc_value) start in
    let n = c.loop-map.map in
    let found = c.index-start-map.result in
    let version = option_map arc_value found in
    let within : n < length start = omega arith in
    let here : get_or versions n version ≡ version
    = get_or-map (option_map arc_value) start n found version within
    ∙ ap (option_map arc_value) (sym c.index-start-map.is) in
    begun_more c.loop-map.history c.begin.new.history (starts 0 versions) versions n version
    (rw length-map within) here c.in_ok-begin.ensures c.loop-map.invariant
