-- Where the orders of a map rise, equal orders at two moments fix one version between them.
use Rattle.std.proofs.Common.{◌≡◌, ℕ, ◌<◌, ◌⊎◌, Bool, true, false, cond, eqb, List, [], ◌∷◌, ◌++◌, map, filter, Option}
use Rattle.std.proofs.Common.{Some, None, refl, sym, ap, ◌∙◌, subst, append_assoc, arith, inl, inr}
use Rattle.std.specs.Prelude.{fold}
use Rattle.std.specs.Ordering.{nat_cmp}
use Rattle.std.specs.declared.cmp.Ordering.TheVariants.{Less}
use Rattle.std.specs.List.Sorted.{IsStrictlySortedBy}
use Rattle.std.proofs.lemmas.Map.Keys.{sorted_from_strictly_increasing, sorted_tail}
use Rattle.std.proofs.lemmas.Map.Views.{All-after_first}
use Rattle.std.proofs.lemmas.List.Elements.{All-head}
use Rattle.yp_version.specs.Versions.{MapVersion}
use Rattle.yp_board.specs.Logs.{Log, shown}
use Rattle.yp_board.specs.Views.{IsFront}
use Rattle.yp_publisher.specs.Rising.{orders, IsRisingLog}

Rising : List ℕ → Type 0
Rising xs = IsStrictlySortedBy nat_cmp xs

-- the last version of a map behind one
last : ℕ → Option MapVersion → Log → Option MapVersion
last number so_far log = fold (λ so_far entry. cond (eqb entry.0 number) (Some entry.1) so_far) so_far log

last_append : (number : ℕ) (so_far : Option MapVersion) (front more : Log)
    → last number so_far (front ++ more) ≡ last number (last number so_far front) more
unfolding last
last_append number so_far [] more = refl
last_append number so_far (entry ∷ front) more =
    last_append number (cond (eqb entry.0 number) (Some entry.1) so_far) front more

-- the orders of entries, where the first may count
counted : Bool → ℕ × MapVersion → List ℕ → List ℕ
counted b entry rest = cond b (entry.1.order ∷ rest) rest

orders_cons : (number : ℕ) (entry : ℕ × MapVersion) (log : Log)
    → orders number (entry ∷ log) ≡ counted (eqb entry.0 number) entry (orders number log)
unfolding counted
orders_cons number entry log = by (eqb entry.0 number)
  where
    by : (b : Bool)
        → map (λ entry. entry.1.order) (cond b (entry ∷ filter (λ entry. eqb entry.0 number) log) (filter (λ entry. eqb entry.0 number) log))
        ≡ cond b (entry.1.order ∷ orders number log) (orders number log)
    by true = refl
    by false = refl

less_than : (a b : ℕ) → nat_cmp a b ≡ Less → a < b
less_than a b is = grind (arith, is)

-- ---- behind a version

-- the orders behind that of a version, if there is one
behind : Option MapVersion → List ℕ → List ℕ
behind None xs = xs
behind (Some version) xs = version.order ∷ xs

rest_rises : (so_far : Option MapVersion) (xs : List ℕ) → Rising (behind so_far xs) → Rising xs
unfolding Rising behind
rest_rises None xs rises = rises
rest_rises (Some version) xs rises = sorted_tail nat_cmp version.order xs rises

-- what follows a log rises behind the version that it shows, where the first entry counts or not
rises_by : (number : ℕ) (b : Bool) (so_far : Option MapVersion) (entry : ℕ × MapVersion) (rest : List ℕ)
    → Rising (behind so_far (counted b entry rest)) → Rising (behind (cond b (Some entry.1) so_far) rest)
unfolding counted behind
rises_by number true so_far entry rest rises = rest_rises so_far (entry.1.order ∷ rest) rises
rises_by number false so_far entry rest rises = rises

rises_behind : (number : ℕ) (so_far : Option MapVersion) (log more : Log) (version : MapVersion)
    → Rising (behind so_far (orders number (log ++ more))) → last number so_far log ≡ Some version
    → Rising (version.order ∷ orders number more)
unfolding last behind
rises_behind number so_far [] more version rises is =
    subst (λ (v : Option MapVersion). Rising (behind v (orders number more))) is rises
rises_behind number so_far (entry ∷ log) more version rises is =
    rises_behind number (cond (eqb entry.0 number) (Some entry.1) so_far) log more version
    (rises_by number (eqb entry.0 number) so_far entry (orders number (log ++ more))
    (subst (λ (xs : List ℕ). Rising (behind so_far xs)) (orders_cons number entry (log ++ more)) rises)) is

-- ---- what is shown later

-- nothing more is shown of the map, or a greater order is
Later : List ℕ → MapVersion → MapVersion → Type 0
Later more first version = ((more ≡ []) × (version ≡ first)) ⊎ (first.order < version.order)

later_by : (number : ℕ) (b : Bool) (first version : MapVersion) (entry : ℕ × MapVersion) (more : Log)
    (all some : List ℕ) → Rising (first.order ∷ counted b entry all)
    → ((middle : MapVersion) → Rising (middle.order ∷ all) → last number (Some middle) more ≡ Some version
    → Later some middle version)
    → last number (cond b (Some entry.1) (Some first)) more ≡ Some version
    → Later (counted b entry some) first version
unfolding counted Later Rising
later_by number true first version entry more all some rises then is =
    let over : first.order < entry.1.order =
    less_than first.order entry.1.order (All-head (λ x. nat_cmp first.order x ≡ Less) entry.1.order all
    (All-after_first nat_cmp first.order (entry.1.order ∷ all) rises)) in
    elim (then entry.1 (sorted_tail nat_cmp first.order (entry.1.order ∷ all) rises) is) [
      | inl none ↦ inr (subst (λ (v : MapVersion). first.order < v.order) (sym none.1) over)
      | inr more ↦ inr (omega (arith, over, more))
    ]
later_by number false first version entry more all some rises then is = then first rises is

later : (number : ℕ) (first version : MapVersion) (more rest : Log)
    → Rising (first.order ∷ orders number (more ++ rest)) → last number (Some first) more ≡ Some version
    → Later (orders number more) first version
unfolding last Later
later number first version [] rest rises is =
    let same : first ≡ version = cc in inl (refl, sym same)
later number first version (entry ∷ more) rest rises is =
    subst (λ (xs : List ℕ). ((xs ≡ []) × (version ≡ first)) ⊎ (first.order < version.order))
    (sym (orders_cons number entry more))
    (later_by number (eqb entry.0 number) first version entry more (orders number (more ++ rest)) (orders number more)
    (subst (λ (xs : List ℕ). Rising (first.order ∷ xs)) (orders_cons number entry (more ++ rest)) rises)
    (λ middle rise comes. later number middle version more rest rise comes) is)

-- where no more of a map is shown up to some log, none is up to one before that
stays_by : (number : ℕ) (b : Bool) (so_far : Option MapVersion) (entry : ℕ × MapVersion) (rest : List ℕ)
    → counted b entry rest ≡ [] → (cond b (Some entry.1) so_far ≡ so_far) × (rest ≡ [])
unfolding counted
stays_by number true so_far entry rest none = absurd cc
stays_by number false so_far entry rest none = (refl, none)

stays : (number : ℕ) (so_far : Option MapVersion) (front more : Log) → orders number (front ++ more) ≡ []
    → last number so_far front ≡ so_far
unfolding last
stays number so_far [] more none = refl
stays number so_far (entry ∷ front) more none =
    let parts = stays_by number (eqb entry.0 number) so_far entry (orders number (front ++ more))
    (sym (orders_cons number entry (front ++ more)) ∙ none) in
    subst (λ (v : Option MapVersion). last number v front ≡ so_far) (sym parts.0)
    (stays number so_far front more parts.1)

-- ---- logs

-- Equal orders of a map at two fronts of a log that rises are of one version, which every front between them shows, too.
pub one_between : (number : ℕ) (first middle final log : Log) (version other : MapVersion)
    → IsFront first middle → IsFront middle final → IsFront final log → IsRisingLog log
    → shown number first ≡ Some version → shown number final ≡ Some other → version.order ≡ other.order
    → (other ≡ version) × (shown number middle ≡ Some version)
unfolding last Later Rising behind
one_between number first middle final log version other begins goes ends rises is other_is same =
    let more = begins.0 ++ goes.0 in
    let some : final ≡ first ++ more =
    goes.1 ∙ ap (λ (l : Log). l ++ goes.0) begins.1 ∙ append_assoc first begins.0 goes.0 in
    let all : log ≡ first ++ (more ++ ends.0) =
    ends.1 ∙ ap (λ (l : Log). l ++ ends.0) some ∙ append_assoc first more ends.0 in
    let risen : Rising (orders number (first ++ (more ++ ends.0))) =
    sorted_from_strictly_increasing _ (subst (λ (l : Log). IsRisingLog l) all rises number) in
    let rest : Rising (version.order ∷ orders number (more ++ ends.0)) =
    rises_behind number None first (more ++ ends.0) version risen is in
    let comes : last number (Some version) more ≡ Some other =
    ap (λ (v : Option MapVersion). last number v more) (sym is) ∙ sym (last_append number None first more)
    ∙ ap (λ (l : Log). last number None l) (sym some) ∙ other_is in
    elim (later number version other more ends.0 rest comes) [
      | inl none ↦ (
        none.1,
        ap (λ (l : Log). last number None l) begins.1 ∙ last_append number None first begins.0
            ∙ ap (λ (v : Option MapVersion). last number v begins.0) is
            ∙ stays number (Some version) begins.0 goes.0 none.0,
      )
      | inr over ↦ absurd (omega (arith, over, same))
    ]
