-- A stream of bytes has one cut at most.
use Rattle.std.proofs.Common.{◌≡◌, ℕ, inl, inr, List, [], ◌∷◌, ◌++◌, refl, sym, ◌∙◌, subst}
use Rattle.yp_rpc.specs.Records.{Fragments, IsRest, Cut}
use Rattle.yp_rpc.proofs.CutKinds.{whole_one, whole_is_not_torn, whole_is_not_long, whole_is_some}

-- a rest begins with no whole record
pub rest_is_not_whole : (limit : ℕ) (message bytes more : List ℕ) → Fragments limit message bytes
    → IsRest limit (bytes ++ more) → ⊥
rest_is_not_whole limit message bytes more whole (inl none) = whole_is_some limit message bytes more whole none
rest_is_not_whole limit message bytes more whole (inr (inl torn)) =
    whole_is_not_torn limit message bytes more whole torn
rest_is_not_whole limit message bytes more whole (inr (inr long)) =
    whole_is_not_long limit message bytes more whole long

-- the records and the rest are determined
pub cut_one : (limit : ℕ) (stream : List ℕ) (messages others : List (List ℕ)) (rest rest' : List ℕ)
    → Cut limit stream messages rest → Cut limit stream others rest' → (messages ≡ others) × (rest ≡ rest')
cut_one limit stream [] [] rest rest' one other = (refl, sym one.0 ∙ other.0)
cut_one limit stream [] (other ∷ others) rest rest' one (bytes, more, whole, begins, cut) =
    absurd (rest_is_not_whole limit other bytes more whole (subst (IsRest limit) (sym one.0 ∙ begins) one.1))
cut_one limit stream (message ∷ messages) [] rest rest' (bytes, more, whole, begins, cut) other =
    absurd (rest_is_not_whole limit message bytes more whole (subst (IsRest limit) (sym other.0 ∙ begins) other.1))
cut_one limit stream (message ∷ messages) (other ∷ others) rest rest' (bytes, more, whole, begins, cut)
    (bytes', more', whole', begins', cut') =
    let first = whole_one limit message other bytes bytes' more more' whole whole' (sym begins ∙ begins') in
    let later = cut_one limit more messages others rest rest' cut (rw first.1 cut') in
    (cc (first.0, later.0), later.1)
