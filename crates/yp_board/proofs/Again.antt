-- A search for a name that stands a second time, one name after another.
use Rattle.std.proofs.Common.{◌≡◌, ℕ, ◌+◌, ◌<◌, ◌≤◌, cond, List, length, get_or, take, drop, Some, None, sym, ap, ◌∙◌}
use Rattle.std.proofs.Common.{min, map}
use Rattle.std.specs.List.{list_any}
use Rattle.std.proofs.lemmas.List.{drop_more, take_more, drop_all, take_min, take-map}
use Rattle.yp_board.specs.Catalogues.{Name, is_same}
use Rattle.yp_board.specs.inside.Catalogues.{again_from}

pub again_from-drop : (names : List Name) (i : ℕ) (d : Name) → i < length names
    → again_from i (take i names) (drop i names)
    ≡ cond (list_any (is_same (get_or names i d)) (take i names)) (Some i)
    (again_from (i + 1) (take (i + 1) names) (drop (i + 1) names))
again_from-drop names i d h =
    ap (again_from i (take i names)) (drop_more names i d h)
    ∙ ap (λ front. cond (list_any (is_same (get_or names i d)) (take i names)) (Some i)
    (again_from (i + 1) front (drop (i + 1) names))) (sym (take_more names i d h))

pub again_from-end : (names : List Name) (i : ℕ) → length names ≤ i → again_from i (take i names) (drop i names) ≡ None
again_from-end names i h = ap (again_from i (take i names)) (drop_all i names h)

pub front-map : {X Y : Type 0} (f : X → Y) (n m : ℕ) (xs : List X) → m ≡ min n (length xs)
    → map f (take m xs) ≡ take n (map f xs)
front-map f n m xs h = rw (h, take_min n xs) (sym (take-map f n xs))
