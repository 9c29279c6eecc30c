-- Logs that rise.
use Rattle.std.proofs.Common.{◌≡◌, ◌≢◌, inl, inr, ℕ, ◌+◌, ◌-◌, ◌<◌, Bool, true, false, List, [], ◌∷◌, ◌++◌, map, filter}
use Rattle.std.proofs.Common.{fold, length, slice_get, get_or, set, Option, None, Some, IfSome, if◌then◌else◌, ◌==◌}
use Rattle.std.proofs.Common.{eqb, eq-eqb, arith, refl, sym, ◌∙◌, ap, subst, append_assoc}
use Rattle.std.proofs.lemmas.Bool.{ne_eqb, cases_eq, cases_lt}
use Rattle.std.proofs.lemmas.List.{get_or_append_left, map-append, length-append, append-nil}
use Rattle.std.proofs.Math.Seq.{get_or-append_seam}
use Rattle.std.proofs.lemmas.List.Elements.{filter-append}
use Rattle.std.proofs.lemmas.Option.{get_or_from_slice_get, slice_get_within}
use Rattle.std.specs.List.{AllByRecursion}
use Rattle.std.specs.List.Sorted.{IsStrictlyIncreasing}
use Rattle.yp_version.specs.Versions.{MapVersion}
use Rattle.yp_board.specs.Logs.{Log, shown}
use Rattle.yp_publisher.specs.Standing.{MapStanding, Level, Behind}
use Rattle.yp_publisher.specs.Rising.{PublisherState, orders, IsRisingLog, IsNewer, with_shown, Stores, Reopens}
use Rattle.yp_publisher.specs.inside.Rising.{Steps, Follow}
use Rattle.yp_publisher.specs.inside.Rising.{IsStart}
use Rattle.yp_publisher.proofs.Lists.{get_set, get_set_other}
use Rattle.yp_publisher.proofs.Maps.{shown_other}

-- ---- numbers that rise

-- one more behind them that is over the last one
pub rise_more : (xs : List ℕ) (o : ℕ) → IsStrictlyIncreasing xs → (0 < length xs → get_or xs (length xs - 1) 0 < o)
    → IsStrictlyIncreasing (xs ++ o ∷ [])
rise_more xs o rising last k lt =
    let size : length (xs ++ o ∷ []) ≡ length xs + 1 = length-append xs (o ∷ []) in
    let here : get_or (xs ++ o ∷ []) k 0 ≡ get_or xs k 0 = get_or_append_left xs (o ∷ []) 0 k (omega arith) in
    elim (cases_lt (k + 1) (length xs)) [
      | inl inside ↦ let next : get_or (xs ++ o ∷ []) (k + 1) 0 ≡ get_or xs (k + 1) 0 =
          get_or_append_left xs (o ∷ []) 0 (k + 1) inside in rw (here, next) (rising k inside)
      | inr end ↦
          let is : k + 1 ≡ length xs = omega arith in
          let before : k ≡ length xs - 1 = omega arith in
          let next : get_or (xs ++ o ∷ []) (k + 1) 0 ≡ o = ap (λ (n : ℕ). get_or (xs ++ o ∷ []) n 0) is
          ∙ get_or-append_seam xs o [] 0 in
          rw (here, next) (subst (λ (n : ℕ). get_or xs n 0 < o) (sym before) (last (omega arith)))
    ]

-- ---- the orders of a map

orders_more : (n : ℕ) (version : MapVersion) (log : Log)
    → orders n (with_shown n version log) ≡ orders n log ++ version.order ∷ []
orders_more n version log =
    let e : eqb n n ≡ true = eq-eqb n n refl in
    let test : ℕ × MapVersion → Bool = λ entry. entry.0 == n in
    let order : ℕ × MapVersion → ℕ = λ entry. entry.1.order in
    ap (map order) (filter-append test log ((n, version) ∷ []))
    ∙ map-append order (filter test log) (filter test ((n, version) ∷ [])) ∙ rw e refl

orders_other : (n other : ℕ) (version : MapVersion) (log : Log) → other ≢ n
    → orders other (with_shown n version log) ≡ orders other log
orders_other n other version log ne =
    let e : eqb n other ≡ false = ne_eqb n other (λ same. ne (sym same)) in
    let test : ℕ × MapVersion → Bool = λ entry. entry.0 == other in
    let order : ℕ × MapVersion → ℕ = λ entry. entry.1.order in
    ap (map order) (filter-append test log ((n, version) ∷ []))
    ∙ map-append order (filter test log) (filter test ((n, version) ∷ []))
    ∙ rw e (append-nil (map order (filter test log)))

-- orders end with that of a version, or there are none
abbrev Ends : List ℕ → Option MapVersion → Type 0
Ends xs None = xs ≡ []
Ends xs (Some version) = (front : List ℕ) × (xs ≡ front ++ version.order ∷ [])

-- what is shown of a map once a log was added
abbrev after : ℕ → Option MapVersion → Log → Option MapVersion
after n so_far log = fold (λ (so_far : Option MapVersion) (entry : ℕ × MapVersion). if entry.0 == n then Some entry.1
    else so_far) so_far log

ends_after : (n : ℕ) (log : Log) (so_far : Option MapVersion) (front : List ℕ) → Ends front so_far
    → Ends (front ++ orders n log) (after n so_far log)
ends_after n [] so_far front ends = subst (λ (xs : List ℕ). Ends xs so_far) (sym (append-nil front)) ends
ends_after n (entry ∷ log) so_far front ends =
    let order : ℕ × MapVersion → ℕ = λ entry. entry.1.order in
    let P : Bool → Type 0 = λ b. Ends
    (front ++ map order (if b then entry ∷ filter (λ (e : ℕ × MapVersion). e.0 == n) log
    else filter (λ (e : ℕ × MapVersion). e.0 == n) log)) (after n (if b then Some entry.1 else so_far) log) in
    elim (cases_eq entry.0 n) [
      | inl same ↦ subst P (sym (eq-eqb entry.0 n same))
          (subst (λ (xs : List ℕ). Ends xs (after n (Some entry.1) log))
          (append_assoc front (entry.1.order ∷ []) (orders n log))
          (ends_after n log (Some entry.1) (front ++ entry.1.order ∷ []) (front, refl)))
      | inr other ↦ subst P (sym (ne_eqb entry.0 n other)) (ends_after n log so_far front ends)
    ]

ends_with : (xs : List ℕ) (last : Option MapVersion) (version : MapVersion) → Ends xs last
    → IfSome last (λ v. v.order < version.order) → 0 < length xs → get_or xs (length xs - 1) 0 < version.order
ends_with xs None version ends newer some = let none : length xs ≡ 0 = ap length ends in absurd (omega arith)
ends_with xs (Some last) version ends newer some =
    let front = ends.0 in
    let size : length xs ≡ length front + 1 = ap length ends.1 ∙ length-append front (last.order ∷ []) in
    let at : length xs - 1 ≡ length front = omega arith in
    let is : get_or xs (length xs - 1) 0 ≡ last.order =
    ap (λ (n : ℕ). get_or xs n 0) at ∙ ap (λ (l : List ℕ). get_or l (length front) 0) ends.1
    ∙ get_or-append_seam front last.order [] 0 in
    rw is newer

-- a log goes on rising with a newer version
pub rises_more : (n : ℕ) (version : MapVersion) (log : Log) → IsRisingLog log → IsNewer n version log
    → IsRisingLog (with_shown n version log)
rises_more n version log rising newer number = elim (cases_eq number n) [
  | inl same ↦
      let ends : Ends (orders n log) (shown n log) = ends_after n log None [] refl in
      let all : IsStrictlyIncreasing (orders n (with_shown n version log)) =
      subst IsStrictlyIncreasing (sym (orders_more n version log))
      (rise_more (orders n log) version.order (rising n)
      (ends_with (orders n log) (shown n log) version ends newer)) in
      subst (λ (k : ℕ). IsStrictlyIncreasing (orders k (with_shown n version log))) (sym same) all
  | inr other ↦ subst IsStrictlyIncreasing (sym (orders_other n number version log other)) (rising number)
]

newer_other : (n other : ℕ) (version failed : MapVersion) (log : Log) → other ≢ n → IsNewer other failed log
    → IsNewer other failed (with_shown n version log)
newer_other n other version failed log ne newer =
    subst (λ (o : Option MapVersion). IfSome o (λ v. v.order < failed.order)) (sym (shown_other n other version log ne))
    newer

-- ---- steps

-- the log rises, and each version that a map is behind is newer than what is shown
record Rises (moment : PublisherState) : Type 0 where
  pub rising : IsRisingLog moment.log
  pub behind : (n : ℕ) (failed : MapVersion) → slice_get moment.standings n ≡ Some (Behind failed)
      → IsNewer n failed moment.log

rises_stored : (n : ℕ) (version : MapVersion) (old new : PublisherState) → IsNewer n version old.log → Stores n version old new
    → Rises old → Rises new
rises_stored n version old new newer stores rises = elim stores.1 [
  | inl shows ↦ subst Rises (sym shows) (record {
    rising = rises_more n version old.log rises.rising newer;
    behind = λ m failed is. elim (cases_eq m n) [
      | inl same ↦ absurd (let e : Some Level ≡ Some (Behind failed) = sym stores.0
          ∙ ap (slice_get old.standings) (sym same) ∙ is in cc)
      | inr other ↦ newer_other n m version failed old.log other (rises.behind m failed is)
    ];
  })
  | inr behind ↦ subst Rises (sym behind) (record {
    rising = rises.rising;
    behind = λ m failed is. elim (cases_eq m n) [
      | inl same ↦
          let there : slice_get (set old.standings n (Behind version)) n ≡ Some (Behind version) =
          get_set old.standings n (Behind version) (slice_get_within old.standings n Level stores.0) in
          let e : Some (Behind version) ≡ Some (Behind failed) = sym there
          ∙ ap (slice_get (set old.standings n (Behind version))) (sym same) ∙ is in
          let v : version ≡ failed = cc in
          subst (λ (k : ℕ). IsNewer k failed old.log) (sym same)
          (subst (λ (w : MapVersion). IsNewer n w old.log) v newer)
      | inr other ↦ rises.behind m failed (sym (get_set_other old.standings n m (Behind version) other) ∙ is)
    ];
  })
]

level_not_behind : (standings : List MapStanding) (n m : ℕ) (was failed : MapVersion)
    → slice_get standings n ≡ Some (Behind was) → m ≡ n → slice_get (set standings n Level) m ≡ Some (Behind failed) → ⊥
level_not_behind standings n m was failed there same is =
    let level : slice_get (set standings n Level) n ≡ Some Level =
    get_set standings n Level (slice_get_within standings n (Behind was) there) in
    let e : Some Level ≡ Some (Behind failed) = sym level ∙ ap (slice_get (set standings n Level)) (sym same) ∙ is in
    cc

rises_reopened : (n : ℕ) (old new : PublisherState) → Reopens n old new → Rises old → Rises new
rises_reopened n old new reopens rises = elim reopens [
  | inl same ↦ subst Rises (sym same) rises
  | inr opened ↦
      let was = opened.0 in
      elim opened.2 [
        | inl level ↦ subst Rises (sym level) (record {
          rising = rises.rising;
          behind = λ m failed is. elim (cases_eq m n) [
            | inl same ↦ absurd (level_not_behind old.standings n m was failed opened.1 same is)
            | inr other ↦ rises.behind m failed (sym (get_set_other old.standings n m Level other) ∙ is)
          ];
        })
        | inr shows ↦ subst Rises (sym shows) (record {
          rising = rises_more n was old.log rises.rising (rises.behind n was opened.1);
          behind = λ m failed is. elim (cases_eq m n) [
            | inl same ↦ absurd (level_not_behind old.standings n m was failed opened.1 same is)
            | inr other ↦ newer_other n m was failed old.log other
                (rises.behind m failed (sym (get_set_other old.standings n m Level other) ∙ is))
          ];
        })
      ]
]

rises_step : (old new : PublisherState) → Steps old new → Rises old → Rises new
rises_step old new step rises = elim step [
  | inl installs ↦ elim installs.2 [
    | inl same ↦ subst Rises (sym same) rises
    | inr stored ↦ rises_stored installs.0 installs.1 old new stored.0 stored.1 rises
  ]
  | inr reopens ↦ rises_reopened reopens.0 old new reopens.1 rises
]

rises_start : (moment : PublisherState) → IsStart moment → Rises moment
rises_start moment start = record {
  rising = λ n k lt. let one = start.one n in absurd (omega arith);
  behind = λ n failed is. absurd (
      let level = start.level n (Behind failed) (slice_get_within moment.standings n (Behind failed) is) in
      let e : Level ≡ Behind failed = sym level
      ∙ get_or_from_slice_get moment.standings n (Behind failed) (Behind failed) is in
      cc);
}

rises_all : (first : PublisherState) (moments : List PublisherState) → Rises first → Follow first moments
    → AllByRecursion (λ moment. IsRisingLog moment.log) (first ∷ moments)
rises_all first [] rises follow = (rises.rising, tt)
rises_all first (next ∷ moments) rises follow =
    (rises.rising, rises_all next moments (rises_step first next follow.0 rises) follow.1)

pub log_rises : (first : PublisherState) (moments : List PublisherState) → IsStart first → Follow first moments
    → AllByRecursion (λ moment. IsRisingLog moment.log) (first ∷ moments)
log_rises first moments start follow = rises_all first moments (rises_start first start) follow
