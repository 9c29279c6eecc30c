use Rattle.std.proofs.Common.{◌≡◌, ℕ, suc, ◌+◌, ◌<◌, List, ◌++◌, length, map, take, drop, set, get_or, ap, ◌∙◌, arith}
use Rattle.yp_binding.specs.declared.standing.BindingState.{BindingState}
use Rattle.yp_binding.specs.inside.Standings.{fresh, rested}
use Rattle.yp_binding.proofs.Lists.{mapped_item, mapped_more}
use Rattle.yp_binding.proofs.standing.rest_all.Goals as goal

pub loop-standing-preserved : goal.loop-standing-preserved
loop-standing-preserved c =
    let xs = c.args.standings.now in
    let items = c.loop-standing.standing-items in
    let i = c.loop-standing.standing-index in
    let front : List BindingState = map rested (take i xs) ++ drop i xs in
    let was : items ≡ front = c.loop-standing.invariant in
    let lt : i < length xs = omega (arith, c.loop-standing-test.true) in
    let one : suc i ≡ i + 1 = omega arith in
    ap (λ (s : BindingState). set items i s) c.rest.ensures
    ∙ ap (λ (zs : List BindingState). set zs i (rested (get_or zs i fresh))) was
    ∙ ap (λ (s : BindingState). set front i (rested s)) (mapped_item rested xs i fresh)
    ∙ mapped_more rested xs i fresh lt ∙ ap (λ (n : ℕ). map rested (take n xs) ++ drop n xs) one
