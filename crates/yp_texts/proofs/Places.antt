-- The place of the first byte of a kind, as a search gives it.
use Rattle.std.proofs.Common.{◌≡◌, ℕ, Bool, List, length, get_or, sym, arith}
use Rattle.std.specs.Prelude.{Option, Some, None, unwrap_or}
use Rattle.std.specs.List.{position_or_len}
use Rattle.std.proofs.lemmas.Bool.{false_from_ne_true}
use Rattle.std.proofs.lemmas.List.Sums.{position_or_len_is}
use Rattle.memchr.specs.Find.{IsFirstByte}

pub place-found : (p : ℕ → Bool) (text : List ℕ) (r : Option ℕ) → IsFirstByte p text r
    → unwrap_or r (length text) ≡ position_or_len p text
place-found p text None h = sym
    (position_or_len_is p text (length text) 0 (omega arith)
    (λ k below. false_from_ne_true (p (get_or text k 0)) (h k (omega arith) below)) (λ past. absurd (omega arith)))
place-found p text (Some i) h =
    sym (position_or_len_is p text i 0 (omega arith)
    (λ k below. false_from_ne_true (p (get_or text k 0)) (h.0.before k (omega arith) below)) (λ within. h.1))
