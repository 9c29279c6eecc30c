-- The turns that wait behind the first.
use Rattle.std.proofs.Common.{◌≡◌, ◌∙◌, ◌+◌, ℕ, List, [], ◌∷◌, Option, drop, length, map, min, ap, sym, refl, zero-le, zero, suc, arith}
use Rattle.std.proofs.Math.ListN.{drop_of_length-le}
use Rattle.yp_io.specs.declared.dial.Letter.{Letter}
use Rattle.yp_memory.specs.inside.MemInbox.{turn_of, turns_behind}

none_left : (n : ℕ) → drop {A = Option Letter} n [] ≡ []
none_left n = drop_of_length-le [] {i = n} zero-le

-- One turn more, but none past the last.
pub goes_on : (mail : List (Option Letter)) (at next : ℕ) → next ≡ min (length mail) (at + 1)
    → map turn_of (drop next mail) ≡ turns_behind (map turn_of (drop at mail))
goes_on [] at next is =
    ap (map turn_of) (none_left next) ∙ sym (ap (λ (l : List (Option Letter)). turns_behind (map turn_of l)) (none_left at))
goes_on (x ∷ xs) zero next is =
    let one : next ≡ 1 = omega arith in
    ap (λ (k : ℕ). map turn_of (drop k (x ∷ xs))) one
goes_on (x ∷ xs) (suc at) next is =
    let m = min (length xs) (at + 1) in
    let more : next ≡ suc m = omega arith in
    ap (λ (k : ℕ). map turn_of (drop k (x ∷ xs))) more ∙ goes_on xs at m refl
