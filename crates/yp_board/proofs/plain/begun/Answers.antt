use Rattle.std.proofs.Common.{◌≡◌, ◌<◌, map, length, get_or, option_map, sym, ap, ◌∙◌, ◌++◌, [], ◌∷◌, arith, take}
use Rattle.std.specs.Arc.{arc_value}
use Rattle.std.proofs.lemmas.List.{get_or-map, length-map}
use Rattle.yp_board.specs.Logs.{starts}
use Rattle.yp_board.proofs.Starts.{starts-more}
use Rattle.yp_board.proofs.plain.begun.Goals as goal

pub loop-map-preserved : goal.loop-map-preserved
loop-map-preserved c =
    let start = c.args.start.now in
    let versions = map (option_map arc_value) start in
    let i = c.loop-map.map in
    let x = c.index-start-map.result in
    let d = option_map arc_value x in
    let within : i < length start = omega arith in
    let here : get_or versions i d ≡ d = get_or-map (option_map arc_value) start i x d within
    ∙ ap (option_map arc_value) (sym c.index-start-map.is) in
    c.begin.ensures
    ∙ ap (λ front. front ++ starts i (d ∷ [])) c.loop-map.invariant
    ∙ ap (λ v. starts 0 (take i versions) ++ starts i (v ∷ [])) (sym here)
    ∙ sym (starts-more versions i d (rw length-map within))
