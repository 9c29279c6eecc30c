-- Bytes that come behind others.
use Rattle.std.proofs.Common.{◌≡◌, List, ◌++◌, length, take, drop, ℕ, ◌+◌, ◌-◌, sym, ◌∙◌, ap, subst, arith}
use Rattle.std.proofs.Common.{Option, Some, Ok}
use Rattle.std.proofs.Math.Seq.{drop-drop}
use Rattle.std.proofs.lemmas.List.{length-drop, take-append-drop, take_all}
use Rattle.yp_io.specs.Ready.{TriesToWrite}
use Rattle.std.specs.Io.KnownBytes.{Keeps, append_known}
use Rattle.std.proofs.KnownBytes.{append_known-moved}
use Rattle.yp_rpc.specs.inside.Outgoing.{Pays}

-- what is behind a place, cut at another
split_front : (n k : ℕ) (xs : List ℕ) → drop n xs ≡ take k (drop n xs) ++ drop (n + k) xs
split_front n k xs =
    sym (take-append-drop k (drop n xs)) ∙ ap (λ (l : List ℕ). take k (drop n xs) ++ l) (drop-drop k n xs)

-- a front of what is owed was taken
pub paid : (E : Type 0) (before after : Option (List ℕ)) (written : List ℕ) (count taken : ℕ) (r : Option ℕ)
    (piece : List ℕ) → piece ≡ drop count written → r ≡ Some taken → TriesToWrite {E = E} before after (Ok r) piece
    → Pays before after (drop count written) (drop (count + taken) written)
paid E before after written count taken r piece lent is wrote = record {
  gave = take taken piece;
  took = subst (λ (q : Option ℕ). TriesToWrite {E = E} before after (Ok q) piece) is wrote;
  owed = split_front count taken written
      ∙ ap (λ (l : List ℕ). take taken l ++ drop (count + taken) written) (sym lent);
}

-- the same, seen as a whole
pub pays : (E : Type 0) (before after : Option (List ℕ)) (written : List ℕ) (paid taken : ℕ) (r : Option ℕ)
    (piece : List ℕ) → piece ≡ drop paid written → r ≡ Some taken → TriesToWrite {E = E} before after (Ok r) piece
    → Keeps (append_known before (drop paid written)) (append_known after (drop (paid + taken) written))
pays E before after written paid taken r piece lent is wrote =
    let gone : TriesToWrite {E = E} before after (Ok (Some taken)) piece =
    subst (λ (q : Option ℕ). TriesToWrite {E = E} before after (Ok q) piece) is wrote in
    append_known-moved before after (take taken piece) (drop (paid + taken) written) (drop paid written) gone
    (split_front paid taken written ∙ ap (λ (l : List ℕ). take taken l ++ drop (paid + taken) written) (sym lent))

-- a slice up to the end
pub sliced : (n : ℕ) (xs ys : List ℕ) → xs ≡ ys → take (length xs - n) (drop n xs) ≡ drop n ys
sliced n xs ys e = take_all (length xs - n) (drop n xs) (omega (arith, length-drop n xs)) ∙ ap (drop n) e
