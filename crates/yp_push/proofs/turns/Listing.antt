-- The slaves of rows, one row on.
use Rattle.std.proofs.Common.{◌≡◌, ℕ, zero, suc, ◌+◌, true, false, List, [], ◌∷◌, ◌++◌, drop, Some}
use Rattle.std.proofs.Common.{refl, sym, ap, ◌∙◌, arith}
use Rattle.std.specs.Prelude.{slice_get, bytes_eq}
use Rattle.std.proofs.Common.{append_assoc}
use Rattle.yp_version.specs.Rows.{Row}
use Rattle.yp_transfer.specs.HostTable.{HostList, find}
use Rattle.yp_push.specs.turns.Pushers.{Slave}
use Rattle.yp_push.specs.turns.Slaves.{slaves_of}

drop_none : (rows : List Row) → drop 0 rows ≡ rows
drop_none [] = refl
drop_none (row ∷ rows) = refl

-- the number behind another one, as the code counts
behind : (i : ℕ) → suc i ≡ i + 1
behind i = omega arith

drop_one : (rows : List Row) (i : ℕ) (row : Row) → Some row ≡ slice_get rows i → drop i rows ≡ row ∷ drop (suc i) rows
drop_one [] i row e = absurd cc
drop_one (first ∷ rows) zero row e =
    let same : row ≡ first = cc in
    ap (λ (r : Row). r ∷ rows) (sym same) ∙ ap (λ (l : List Row). row ∷ l) (sym (drop_none rows))
drop_one (first ∷ rows) (suc i) row e = drop_one rows i row e

-- the own name is no slave's
pub passes_own : (own : List ℕ) (hosts : HostList) (rows : List Row) (i : ℕ) (row : Row) → Some row ≡ slice_get rows i
    → bytes_eq row.0 own ≡ true → slaves_of own hosts (drop i rows) ≡ slaves_of own hosts (drop (i + 1) rows)
passes_own own hosts rows i row e is =
    ap (λ (l : List Row). slaves_of own hosts l) (drop_one rows i row e) ∙ rw is refl
    ∙ ap (λ (n : ℕ). slaves_of own hosts (drop n rows)) (behind i)

-- any other name is one's
passes_other : (own : List ℕ) (hosts : HostList) (rows : List Row) (i : ℕ) (row : Row)
    → Some row ≡ slice_get rows i → bytes_eq row.0 own ≡ false
    → slaves_of own hosts (drop i rows) ≡ (row.0, find row.0 hosts) ∷ slaves_of own hosts (drop (suc i) rows)
passes_other own hosts rows i row e is =
    ap (λ (l : List Row). slaves_of own hosts l) (drop_one rows i row e) ∙ rw is refl

-- the slaves so far, and those of the rows that are left
pub one_more : (own : List ℕ) (hosts : HostList) (rows : List Row) (i : ℕ) (row : Row) (old new : List Slave)
    → Some row ≡ slice_get rows i → bytes_eq row.0 own ≡ false → new ≡ old ++ (row.0, find row.0 hosts) ∷ []
    → new ++ slaves_of own hosts (drop (i + 1) rows) ≡ old ++ slaves_of own hosts (drop i rows)
one_more own hosts rows i row old new e is more =
    ap (λ (n : ℕ). new ++ slaves_of own hosts (drop n rows)) (sym (behind i))
    ∙ ap (λ (l : List Slave). l ++ slaves_of own hosts (drop (suc i) rows)) more
    ∙ append_assoc old ((row.0, find row.0 hosts) ∷ []) (slaves_of own hosts (drop (suc i) rows))
    ∙ ap (λ (l : List Slave). old ++ l) (sym (passes_other own hosts rows i row e is))
