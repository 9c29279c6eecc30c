-- What holds of each of a list holds of the last, and of those before it.
use Rattle.std.proofs.Common.{◌≡◌, List, [], ◌∷◌, ◌++◌, length, subst, arith}
use Rattle.std.specs.List.{All}
use Rattle.std.proofs.lemmas.List.{get_or_append_left, length_push}
use Rattle.std.proofs.Math.Seq.{get_or-append_seam}

pub all_before : {X : Type 0} (P : X → Type 0) (all front : List X) (last : X) → all ≡ front ++ last ∷ [] → All P all
    → All P front
all_before P all front last is every k d below =
    let longer = length_push front last in
    subst P (get_or_append_left front (last ∷ []) d k below)
    (subst (All P) is every k d (omega (arith, longer, below)))

pub all_last : {X : Type 0} (P : X → Type 0) (all front : List X) (last : X) → all ≡ front ++ last ∷ [] → All P all
    → P last
all_last P all front last is every =
    let longer = length_push front last in
    subst P (get_or-append_seam front last [] last)
    (subst (All P) is every (length front) last (omega (arith, longer)))
