-- A lemma on pieces of a list that are read one after another.
use Rattle.std.proofs.Common.{◌≡◌, ℕ, ◌+◌, ◌≤◌, List, ◌++◌, length, take, drop, sym}
use Rattle.std.proofs.Common.{drop-drop, take-append-drop, length-take-le}
use Rattle.std.proofs.lemmas.List.{take_at}

-- what is copied to the front of a buffer, and what is left after it, is what was left before
pub front_then_rest : (bytes front beyond : List ℕ) (at count : ℕ) → count ≤ length (drop at bytes)
    → front ≡ take count (drop at bytes)
    → drop at bytes ≡ take count (front ++ beyond) ++ drop (at + count) bytes
front_then_rest bytes front beyond at count within copied =
    let size : length front ≡ count = rw copied (length-take-le count (drop at bytes) within) in
    rw (take_at front beyond count size, copied, ← drop-drop count at bytes)
    (sym (take-append-drop count (drop at bytes)))
