-- The log that begins with versions.
use Rattle.std.proofs.Common.{◌≡◌, ◌≢◌, inl, inr, ℕ, zero, suc, ◌+◌, ◌<◌, ◌≤◌, Bool, true, false, subst, List, [], ◌∷◌}
use Rattle.std.proofs.Common.{map, filter, length, fold, get_or, Option, None, Some, if◌then◌else◌, ◌==◌, eqb, eq-eqb}
use Rattle.std.proofs.Common.{refl, sym, ap, arith}
use Rattle.std.proofs.lemmas.Bool.{ne_eqb, cases_eq}
use Rattle.std.specs.List.{All}
use Rattle.yp_version.specs.Versions.{MapVersion}
use Rattle.yp_board.specs.Logs.{Log, starts}
use Rattle.yp_publisher.specs.Standing.{MapStanding, Level}
use Rattle.yp_publisher.specs.Rising.{orders}
use Rattle.yp_publisher.specs.inside.Rising.{IsStart}

-- what is shown of a map once a log was added
abbrev after : ℕ → Option MapVersion → Log → Option MapVersion
after number so_far log = fold (λ (so_far : Option MapVersion) (entry : ℕ × MapVersion). if entry.0 == number
    then Some entry.1 else so_far) so_far log

starts_behind : (versions : List (Option MapVersion)) (from number : ℕ) (so_far : Option MapVersion) → number < from
    → after number so_far (starts from versions) ≡ so_far
starts_behind [] from number so_far lt = refl
starts_behind (None ∷ rest) from number so_far lt = starts_behind rest (from + 1) number so_far (omega arith)
starts_behind (Some v ∷ rest) from number so_far lt =
    let ne : from ≢ number = omega arith in
    let e : eqb from number ≡ false = ne_eqb from number ne in
    let P : Bool → Type 0 = λ b. after number (if b then Some v else so_far) (starts (from + 1) rest) ≡ so_far in
    subst P (sym e) (starts_behind rest (from + 1) number so_far (omega arith))

pub starts_at : (versions : List (Option MapVersion)) (from k number : ℕ) → number ≡ from + k
    → after number None (starts from versions) ≡ get_or versions k None
starts_at [] from k number is = refl
starts_at (None ∷ rest) from zero number is = starts_behind rest (from + 1) number None (omega arith)
starts_at (None ∷ rest) from (suc k) number is = starts_at rest (from + 1) k number (omega arith)
starts_at (Some v ∷ rest) from zero number is =
    let e : eqb from number ≡ true = eq-eqb from number (omega arith) in
    let P : Bool → Type 0 = λ b. after number (if b then Some v else None) (starts (from + 1) rest) ≡ Some v in
    subst P (sym e) (starts_behind rest (from + 1) number (Some v) (omega arith))
starts_at (Some v ∷ rest) from (suc k) number is =
    let ne : from ≢ number = omega arith in
    let e : eqb from number ≡ false = ne_eqb from number ne in
    let P : Bool → Type 0 = λ b. after number (if b then Some v else None) (starts (from + 1) rest) ≡
    get_or rest k None in
    subst P (sym e) (starts_at rest (from + 1) k number (omega arith))

-- ---- at most one version of each map

orders_behind : (versions : List (Option MapVersion)) (from number : ℕ) → number < from
    → orders number (starts from versions) ≡ []
orders_behind [] from number lt = refl
orders_behind (None ∷ rest) from number lt = orders_behind rest (from + 1) number (omega arith)
orders_behind (Some v ∷ rest) from number lt =
    let e : eqb from number ≡ false = ne_eqb from number (omega arith) in
    let test : ℕ × MapVersion → Bool = λ entry. entry.0 == number in
    let P : Bool → Type 0 = λ b. map (λ (entry : ℕ × MapVersion). entry.1.order) (if b
    then (from, v) ∷ filter test (starts (from + 1) rest) else filter test (starts (from + 1) rest)) ≡ [] in
    subst P (sym e) (orders_behind rest (from + 1) number (omega arith))

orders_few : (versions : List (Option MapVersion)) (from number : ℕ) → length (orders number (starts from versions)) ≤ 1
orders_few [] from number = omega arith
orders_few (None ∷ rest) from number = orders_few rest (from + 1) number
orders_few (Some v ∷ rest) from number =
    let test : ℕ × MapVersion → Bool = λ entry. entry.0 == number in
    let P : Bool → Type 0 = λ b. length (map (λ (entry : ℕ × MapVersion). entry.1.order) (if b
    then (from, v) ∷ filter test (starts (from + 1) rest) else filter test (starts (from + 1) rest))) ≤ 1 in
    elim (cases_eq from number) [
      | inl same ↦
          let none : length (orders number (starts (from + 1) rest)) ≡ 0 =
          ap length (orders_behind rest (from + 1) number (omega arith)) in
          let one : length (orders number (starts (from + 1) rest)) + 1 ≤ 1 = omega arith in
          subst P (sym (eq-eqb from number same)) (omega arith)
      | inr other ↦ subst P (sym (ne_eqb from number other)) (orders_few rest (from + 1) number)
    ]

pub beginning_is_start : (versions : List (Option MapVersion)) (standings : List MapStanding)
    → All (λ standing. standing ≡ Level) standings
    → IsStart (record { log = starts 0 versions; standings = standings })
beginning_is_start versions standings level = record { level = level; one = λ number. orders_few versions 0 number }
