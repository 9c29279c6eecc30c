-- Lemmas on pieces of a list that are written one after another.
use Rattle.std.proofs.Common.{◌≡◌, ℕ, ◌+◌, ◌-◌, ◌≤◌, List, ◌++◌, Option, length, take, drop, sym, arith, length-drop}
use Rattle.std.proofs.Common.{drop-drop, take-append-drop, refl, ◌∙◌}
use Rattle.std.proofs.lemmas.List.{drop-take, take-take}
use Rattle.std.proofs.KnownBytes.{Appends-trans}
use Rattle.std.specs.Io.KnownBytes.{Appends}

-- the first n of a list, and the k after them
pub take-add : (n k : ℕ) (xs : List ℕ) → take (n + k) xs ≡ take n xs ++ take k (drop n xs)
take-add n k xs =
    sym (take-append-drop n (take (n + k) xs))
    ∙ (let below : n ≤ n + k = omega arith in rw (take-take n (n + k) xs below, drop-take n k xs) refl)

-- A sink took the first `count` bytes of a piece, and `rest` are the others.
pub record HasTaken (before now : Option (List ℕ)) (piece rest : List ℕ) : Type 0 where
  pub count : ℕ
  pub within : count ≤ length piece
  pub left : rest ≡ drop count piece
  pub appended : Appends before now (take count piece)

-- it then took k bytes of the rest
pub HasTaken-more : (before now after : Option (List ℕ)) (piece rest : List ℕ) (k : ℕ)
    → HasTaken before now piece rest → k ≤ length rest
    → Appends now after (take k rest) → HasTaken before after piece (drop k rest)
HasTaken-more before now after piece rest k h within more = record {
  count = h.count + k;
  within = let e : length rest ≡ length piece - h.count = rw h.left (length-drop h.count piece) in omega arith;
  left = rw h.left (drop-drop k h.count piece);
  appended = rw take-add (Appends-trans _ _ _ _ _ h.appended (rw h.left at more));
}
