-- What a failed file is covered by.
use Rattle.std.proofs.Common.{◌≡◌, ◌≢◌, inl, inr, ℕ, zero, suc, ◌+◌, ◌<◌, ◌≤◌, ◌==◌, List, [], ◌∷◌, length, slice_get, Bool, true, false, if◌then◌else◌, Option, None, Some, IfSome, IsSome, IsNone, IfErr, OnOk, Result, Ok, Err, refl, sym, ◌∙◌, ap, subst, arith}
use Rattle.std.specs.Option.{option_or}
use Rattle.std.proofs.lemmas.Option.{slice_get_cases, same_Some}
use Rattle.std.proofs.lemmas.Bool.{cases_eq}
use Rattle.std.proofs.lemmas.Bool.Decides.{nat_tests}
use Rattle.yp_io.specs.Counts.{HasRisen, last_count}
use Rattle.yp_io.specs.Disk.{History, HistoryGoesOn}
use Rattle.yp_version.specs.Versions.{MapVersion}
use Rattle.yp_map_file.specs.Commits.{generation_max}
use Rattle.yp_map_file.specs.declared.fault.SlotFault.{SlotFault}
use Rattle.yp_map_file.specs.declared.fault.SlotFault.TheVariants as slot
use Rattle.yp_publisher.specs.declared.install.Origin.{Origin}
use Rattle.yp_publisher.specs.declared.install.InstallFault.{InstallFault}
use Rattle.yp_publisher.specs.declared.install.InstallFault.TheVariants as fault
use Rattle.yp_publisher.specs.Standing.{MapStanding, Level, StoredMap, Published, OfMap, At, IsSameElsewhere}
use Rattle.yp_publisher.specs.Keeping.{Keeping, Upholds}
use Rattle.yp_publisher.specs.Installs.{OfferedVersion, IsBehind, HasMaster, IsNotNewer, IsSpent, Refusal, is_behind, is_foreign, is_no_newer, not_following, no_further, install_refusal, LeavesEither, Installs, Refuses}
use Rattle.yp_publisher.specs.Opens.{StandsMeanwhile, Opens, IsOpenCause, StaysBehind}
use Rattle.yp_publisher.specs.declared.sharing.locked.ShareFault.{ShareFault}
use Rattle.yp_publisher.specs.declared.sharing.locked.ShareFault.TheVariants.{Shut, Unfit, Untold}
use Rattle.yp_publisher.specs.sharing.Shares.{offer_behind}
use Rattle.yp_publisher.specs.inside.sharing.Shares.{candidate, OpensAndInstalls, OpensAndRefuses, IsNotInstalled}
use Rattle.yp_publisher.specs.sharing.Failures.{faults_over, disks_of}
use Rattle.yp_publisher.specs.inside.sharing.Failures.{failures_in, failures_of, MapTellsFaults, Covers}

-- ---- all faults, where one map has changed

module _ {D : Type 0} (faults : D → ℕ) where
  abbrev total : List (StoredMap D) → ℕ
  total maps = faults_over faults (disks_of maps)

  total_same : (xs ys : List (StoredMap D)) → length ys ≡ length xs → ((n : ℕ) → slice_get ys n ≡ slice_get xs n)
      → total ys ≡ total xs
  total_same [] [] count each = refl
  total_same [] (y ∷ ys) count each = absurd (omega (arith, count))
  total_same (x ∷ xs) [] count each = absurd (omega (arith, count))
  total_same (x ∷ xs) (y ∷ ys) count each =
      let first : y ≡ x = same_Some y x (each 0) in
      let rest = total_same xs ys (omega (arith, count)) (λ n. each (suc n)) in
      let same : faults y.disk ≡ faults x.disk = ap (λ (z : StoredMap D). faults z.disk) first in
      omega (arith, rest, same)

  total_one : (more number : ℕ) (xs ys : List (StoredMap D)) → length ys ≡ length xs
      → ((other : ℕ) → other ≢ number → slice_get ys other ≡ slice_get xs other)
      → number < length xs
      → IfSome (slice_get xs number) (λ x. IfSome (slice_get ys number) (λ y. faults x.disk + more ≤ faults y.disk))
      → total xs + more ≤ total ys
  total_one more number [] ys count others below at = absurd (omega (arith, below))
  total_one more number (x ∷ xs) [] count others below at = absurd (omega (arith, count))
  total_one more zero (x ∷ xs) (y ∷ ys) count others below at =
      let rest = total_same xs ys (omega (arith, count)) (λ n. others (suc n) (λ e. absurd (omega (arith, e)))) in
      omega (arith, rest, at)
  total_one more (suc number) (x ∷ xs) (y ∷ ys) count others below at =
      let first : y ≡ x = same_Some y x (others 0 (λ e. absurd (omega (arith, e)))) in
      let same : faults y.disk ≡ faults x.disk = ap (λ (z : StoredMap D). faults z.disk) first in
      let rest = total_one more number xs ys (omega (arith, count))
      (λ n apart. others (suc n) (λ e. apart (omega (arith, e)))) (omega (arith, below)) at in
      omega (arith, rest, same)

-- ---- a map that has changed

-- a disk that tells its history told it before
pub told_before : (old new : Option History) → HistoryGoesOn old new → IsSome new → IsSome old
told_before None None goes told = absurd cc
told_before None (Some new) goes told = absurd goes
told_before (Some old) new goes told = refl

none_told : (history : Option History) → IsNone history → IsSome history → ⊥
none_told None none told = absurd cc
none_told (Some history) none told = absurd cc

module _ {D : Type 0} (history : D → Option History) (faults : D → ℕ) where
  -- so many files failed in it
  pub record Fails (more : ℕ) (before after : StoredMap D) : Type 0 where
    pub well : MapTellsFaults history faults after → MapTellsFaults history faults before
    pub counted : MapTellsFaults history faults after → faults before.disk + more ≤ faults after.disk

  fails_then : (one other : ℕ) (a b c : StoredMap D) → Fails one a b → Fails other b c → Fails (one + other) a c
  fails_then one other a b c first second = record {
    well = λ is. first.well (second.well is);
    counted = λ is. omega (arith, first.counted (second.well is), second.counted is);
  }

  -- of one map, while the others stay
  covers_then : (started already more number : ℕ) (old new : List (StoredMap D)) (before after : StoredMap D)
      → IsSameElsewhere number old new → number < length old → slice_get old number ≡ Some before
      → slice_get new number ≡ Some after → Fails more before after
      → Covers history faults started old already → Covers history faults started new (already + more)
  covers_then started already more number old new before after elsewhere within here there fails covers = λ all.
      let is : MapTellsFaults history faults after = subst (λ (o : Option (StoredMap D)). IfSome o (MapTellsFaults history faults)) there (all number) in
      let was : (other : ℕ) → OfMap other old (MapTellsFaults history faults) = λ other. elim (cases_eq other number) [
        | inl e ↦ subst (λ (n : ℕ). OfMap n old (MapTellsFaults history faults)) (sym e)
            (subst (λ (o : Option (StoredMap D)). IfSome o (MapTellsFaults history faults)) (sym here) (fails.well is))
        | inr ne ↦ subst (λ (o : Option (StoredMap D)). IfSome o (MapTellsFaults history faults)) (elsewhere.others other ne) (all other)
      ] in
      let at : IfSome (slice_get old number) (λ x. IfSome (slice_get new number) (λ y. faults x.disk + more ≤ faults y.disk)) =
      subst (λ (o : Option (StoredMap D)). IfSome o (λ x. IfSome (slice_get new number) (λ y. faults x.disk + more ≤ faults y.disk))) (sym here)
      (subst (λ (o : Option (StoredMap D)). IfSome o (λ y. faults before.disk + more ≤ faults y.disk)) (sym there) (fails.counted is)) in
      let sums = total_one faults more number old new elsewhere.count elsewhere.others within at in
      omega (arith, covers was, sums)

-- ---- the calls of a publisher

-- a map that is there
pub the_map : {D : Type 0} (maps : List (StoredMap D)) (number : ℕ) → number < length maps
    → (kept : StoredMap D) × (slice_get maps number ≡ Some kept)
the_map maps number within = elim (slice_get_cases maps number).1 [
  | inl here ↦ (here.0, here.2)
  | inr past ↦ let le : length maps ≤ number = past.0 in absurd (omega arith)
]

pub of_map : {D : Type 0} (P : StoredMap D → Type 0) (number : ℕ) (maps : List (StoredMap D)) (kept : StoredMap D)
    → slice_get maps number ≡ Some kept → OfMap number maps P → P kept
of_map {D} P number maps kept here h = subst (λ (o : Option (StoredMap D)). IfSome o P) here h

pub at_map : {D : Type 0} (P : StoredMap D → StoredMap D → Type 0) (number : ℕ) (old new : List (StoredMap D)) (before after : StoredMap D)
    → slice_get old number ≡ Some before → slice_get new number ≡ Some after → At number old new P → P before after
at_map {D} P number old new before after here there h =
    of_map (P before) number new after there (of_map (λ b. OfMap number new (P b)) number old before here h)

-- nothing stands against a version, and the last generation isn't reached
spent_is_opposed : (first : Option Refusal) (generation : ℕ) → option_or first (no_further generation) ≡ None
    → generation ≢ generation_max
spent_is_opposed None generation none is =
    let found : no_further generation_max ≡ None = subst (λ (n : ℕ). no_further n ≡ None) is none in
    let e : Some IsSpent ≡ None = found in absurd cc
spent_is_opposed (Some why) generation none is = absurd cc

-- it is reached
opposed_is_spent : (generation : ℕ) (b : Bool) → (generation == generation_max) ≡ b
    → (if b then Some IsSpent else None) ≡ Some IsSpent → generation ≡ generation_max
opposed_is_spent generation true is spent = grind (arith, nat_tests)
opposed_is_spent generation false is spent = absurd cc

not_following_is_not_spent : (own : List ℕ) (offered : OfferedVersion) (version : Option MapVersion) (generation : ℕ)
    → option_or (not_following own offered version) (no_further generation) ≡ Some IsSpent
    → generation ≡ generation_max
not_following_is_not_spent own offered None generation is =
    opposed_is_spent generation (generation == generation_max) refl is
not_following_is_not_spent own offered (Some version) generation is =
    by_cases (is_foreign own offered.origin version) (is_no_newer offered version) is where
      by_cases : (foreign older : Bool)
          → option_or (if foreign then Some (HasMaster version.master) else if older then Some (IsNotNewer version.order offered.version.order) else None) (no_further generation) ≡ Some IsSpent
          → generation ≡ generation_max
      by_cases true older h = absurd cc
      by_cases false true h = absurd cc
      by_cases false false h = opposed_is_spent generation (generation == generation_max) refl h

-- of a level map it is the refusal of the first of the other reasons
pub level_refusal : {D : Type 0} (own : List ℕ) (offered : OfferedVersion) (kept : StoredMap D) → kept.standing ≡ Level
    → install_refusal own offered kept ≡ option_or (not_following own offered kept.version) (no_further kept.generation)
level_refusal own offered kept level =
    ap (λ (s : MapStanding). if is_behind s then Some IsBehind else option_or (not_following own offered kept.version) (no_further kept.generation)) level

not_behind : (own : List ℕ) (offered : OfferedVersion) (version : Option MapVersion) (generation : ℕ)
    → option_or (not_following own offered version) (no_further generation) ≡ Some IsBehind → ⊥
not_behind own offered None generation is = by_end (generation == generation_max) is where
  by_end : (b : Bool) → (if b then Some IsSpent else None) ≡ Some IsBehind → ⊥
  by_end true h = absurd cc
  by_end false h = absurd cc
not_behind own offered (Some version) generation is =
    by_cases (is_foreign own offered.origin version) (is_no_newer offered version) (generation == generation_max) is where
      by_cases : (foreign older b : Bool)
          → option_or (if foreign then Some (HasMaster version.master) else if older then Some (IsNotNewer version.order offered.version.order) else None) (if b then Some IsSpent else None) ≡ Some IsBehind
          → ⊥
      by_cases true older b h = absurd cc
      by_cases false true b h = absurd cc
      by_cases false false true h = absurd cc
      by_cases false false false h = absurd cc

risen_by_one : (before after : ℕ) → HasRisen before after → after < last_count → before + 1 ≤ after
risen_by_one before after risen below = omega (arith, risen, below)

module _ {D B : Type 0} (keeping : Keeping D B) (number : ℕ) where
  abbrev Step : ℕ → StoredMap D → StoredMap D → Type 0
  Step = Fails keeping.history keeping.faults

  fails_same : (before after : StoredMap D) → after ≡ before → Step 0 before after
  fails_same before after e = subst (λ (k : StoredMap D). Step 0 before k) (sym e)
      (record { well = λ is. is; counted = λ is. omega arith })

  module _ (old new : Published D B) (before after : StoredMap D) (here : slice_get old.maps number ≡ Some before)
      (there : slice_get new.maps number ≡ Some after) where
    after_same : new ≡ old → after ≡ before
    after_same same =
        same_Some after before (sym there ∙ ap (λ (p : Published D B). slice_get p.maps number) same ∙ here)

    opened : Opens keeping number old new → Step 0 before after
    opened opens =
        let never = at_map (λ b a. keeping.faults b.disk ≤ keeping.faults a.disk) number old.maps new.maps before after here there opens.upheld.never_falls in
        let meanwhile = at_map (StandsMeanwhile keeping.history) number old.maps new.maps before after here there opens.meanwhile in record {
          well = λ is. record {
            told = told_before (keeping.history before.disk) (keeping.history after.disk) meanwhile.no_more.goes_on is.told;
            counts = omega (arith, never, is.counts);
            unspent = λ level spent.
                let same = of_map (λ m. m.standing ≡ Level → new ≡ old) number old.maps before here opens.unchanged level in
                subst (λ (k : StoredMap D). k.standing ≡ Level → k.generation ≢ generation_max) (after_same same) is.unspent level spent;
          };
          counted = λ is. omega (arith, never);
        }

    -- of a version that nothing stands against
    changed : (more : ℕ) (offered : OfferedVersion) → Upholds keeping number old new
        → At number old.maps new.maps (LeavesEither keeping.history offered.version)
        → install_refusal old.catalogue.own offered before ≡ None
        → (MapTellsFaults keeping.history keeping.faults after → keeping.faults before.disk + more ≤ keeping.faults after.disk)
        → Step more before after
    changed more offered upheld meanwhile none counted =
        let never = at_map (λ b a. keeping.faults b.disk ≤ keeping.faults a.disk) number old.maps new.maps before after here there upheld.never_falls in
        let leaves = at_map (LeavesEither keeping.history offered.version) number old.maps new.maps before after here there meanwhile in record {
          well = λ is. record {
            told = told_before (keeping.history before.disk) (keeping.history after.disk) leaves.goes_on is.told;
            counts = omega (arith, never, is.counts);
            unspent = λ level. spent_is_opposed (not_following old.catalogue.own offered before.version) before.generation
                (sym (level_refusal old.catalogue.own offered before level) ∙ none);
          };
          counted = counted;
        }

    never_rises : Upholds keeping number old new → MapTellsFaults keeping.history keeping.faults after
        → keeping.faults before.disk + 0 ≤ keeping.faults after.disk
    never_rises upheld is =
        let never = at_map (λ b a. keeping.faults b.disk ≤ keeping.faults a.disk) number old.maps new.maps before after here there upheld.never_falls in
        omega (arith, never)

    installed : (offered : OfferedVersion) → Installs keeping number offered old new → Step 0 before after
    installed offered installs =
        changed 0 offered installs.upheld installs.meanwhile
        (of_map (λ k. install_refusal old.catalogue.own offered k ≡ None) number old.maps before here installs.unopposed)
        (never_rises installs.upheld)

    refused : (offered : OfferedVersion) (why : InstallFault) → before.standing ≡ Level
        → Refuses keeping number offered why old new → Step (failures_in (Unfit why)) before after
    refused offered fault.Behind level refuses =
        let cause = of_map (λ k. install_refusal old.catalogue.own offered k ≡ Some IsBehind) number old.maps before here refuses.cause in
        absurd (not_behind old.catalogue.own offered before.version before.generation
        (sym (level_refusal old.catalogue.own offered before level) ∙ cause))
    refused offered (fault.Refused master) level refuses = fails_same before after (after_same refuses.left)
    refused offered (fault.Age last order) level refuses = fails_same before after (after_same refuses.left)
    refused offered fault.GenerationsSpent level refuses =
        let cause = of_map (λ k. install_refusal old.catalogue.own offered k ≡ Some IsSpent) number old.maps before here refuses.cause in
        let spent : before.generation ≡ generation_max = not_following_is_not_spent old.catalogue.own offered before.version before.generation
        (sym (level_refusal old.catalogue.own offered before level) ∙ cause) in
        let never : MapTellsFaults keeping.history keeping.faults after → ⊥ = λ is.
        subst (λ (k : StoredMap D). k.standing ≡ Level → k.generation ≢ generation_max) (after_same refuses.left) is.unspent level spent in
        record { well = λ is. absurd (never is); counted = λ is. absurd (never is) }
    refused offered fault.DiskFault level refuses =
        let cause = of_map (λ k. install_refusal old.catalogue.own offered k ≡ None) number old.maps before here refuses.cause in
        let risen = at_map (λ b a. HasRisen (keeping.faults b.disk) (keeping.faults a.disk)) number old.maps new.maps before after here there refuses.left.cause in
        changed 1 offered refuses.upheld refuses.meanwhile cause
        (λ is. risen_by_one (keeping.faults before.disk) (keeping.faults after.disk) risen is.counts)
    refused offered fault.NoMemory level refuses = elim refuses.left [
      | inl same ↦ fails_same before after (after_same same)
      | inr fails ↦ changed 0 offered refuses.upheld refuses.meanwhile
          (of_map (λ k. install_refusal old.catalogue.own offered k ≡ None) number old.maps before here fails.unopposed)
          (never_rises refuses.upheld)
    ]

    shut : (why : SlotFault) → StaysBehind keeping number why old new → Step (failures_in (Shut why)) before after
    shut why stays = by_fault why stays.cause where
      behind : before.standing ≢ Level
      behind = of_map (λ m. m.standing ≢ Level) number old.maps before here stays.behind

      well : MapTellsFaults keeping.history keeping.faults after → MapTellsFaults keeping.history keeping.faults before
      well is =
          let never = at_map (λ b a. keeping.faults b.disk ≤ keeping.faults a.disk) number old.maps new.maps before after here there stays.upheld.never_falls in
          let meanwhile = at_map (StandsMeanwhile keeping.history) number old.maps new.maps before after here there stays.meanwhile in record {
            told = told_before (keeping.history before.disk) (keeping.history after.disk) meanwhile.no_more.goes_on is.told;
            counts = omega (arith, never, is.counts);
            unspent = λ level. absurd (behind level);
          }

      by_fault : (why : SlotFault) → At number old.maps new.maps (IsOpenCause {B = B} keeping why)
          → Step (failures_in (Shut why)) before after
      by_fault slot.DiskFault cause =
          let risen = at_map (λ b a. HasRisen (keeping.faults b.disk) (keeping.faults a.disk)) number old.maps new.maps before after here there cause in record {
            well = well;
            counted = λ is. risen_by_one (keeping.faults before.disk) (keeping.faults after.disk) risen is.counts;
          }
      by_fault slot.NoMemory cause = record { well = well; counted = never_rises stays.upheld }
      by_fault (slot.Damaged at rule) cause =
          let untold = at_map (λ b a. IsNone (keeping.history b.disk)) number old.maps new.maps before after here there cause in record {
            well = well;
            counted = λ is. absurd (none_told (keeping.history before.disk) untold (well is).told);
          }

  module _ (started already : ℕ) (version : MapVersion) (origin : Origin) (old new : Published D B)
      (within : number < length old.maps) (covers : Covers keeping.history keeping.faults started old.maps already) where
    -- what holds behind an opening
    module _ (middle : Published D B) (opens : Opens keeping number old middle) where
      within_middle : number < length middle.maps
      within_middle = let count = opens.upheld.elsewhere.count in omega (arith, within, count)

      covers_middle : Covers keeping.history keeping.faults started middle.maps already
      covers_middle =
          let before = the_map old.maps number within in
          let after = the_map middle.maps number within_middle in
          subst (λ (n : ℕ). Covers keeping.history keeping.faults started middle.maps n) (omega arith)
          (covers_then keeping.history keeping.faults started already 0 number old.maps middle.maps before.0 after.0 opens.upheld.elsewhere within
          before.1 after.1 (opened old middle before.0 after.0 before.1 after.1 opens) covers)

    pub installed_covers : OpensAndInstalls keeping (candidate number version origin) old new
        → Covers keeping.history keeping.faults started new.maps already
    installed_covers is =
        let before = the_map is.middle.maps number (within_middle is.middle is.opens) in
        let count = is.installs.upheld.elsewhere.count in
        let after = the_map new.maps number (omega (arith, count, within_middle is.middle is.opens)) in
        subst (λ (n : ℕ). Covers keeping.history keeping.faults started new.maps n) (omega arith)
        (covers_then keeping.history keeping.faults started already 0 number is.middle.maps new.maps before.0 after.0 is.installs.upheld.elsewhere
        (within_middle is.middle is.opens) before.1 after.1
        (installed is.middle new before.0 after.0 before.1 after.1 (offer_behind number version origin (keeping.log is.middle.board)) is.installs)
        (covers_middle is.middle is.opens))

    refused_covers : (why : InstallFault) → OpensAndRefuses keeping (candidate number version origin) (Unfit why) old new
        → Covers keeping.history keeping.faults started new.maps (already + failures_in (Unfit why))
    refused_covers why is =
        let before = the_map is.middle.maps number (within_middle is.middle is.opens) in
        let count = is.refuses.upheld.elsewhere.count in
        let after = the_map new.maps number (omega (arith, count, within_middle is.middle is.opens)) in
        let level = of_map (λ m. m.standing ≡ Level) number is.middle.maps before.0 before.1 is.opens.level in
        covers_then keeping.history keeping.faults started already (failures_in (Unfit why)) number is.middle.maps new.maps before.0 after.0
        is.refuses.upheld.elsewhere (within_middle is.middle is.opens) before.1 after.1
        (refused is.middle new before.0 after.0 before.1 after.1 (offer_behind number version origin (keeping.log is.middle.board)) why level is.refuses)
        (covers_middle is.middle is.opens)

    pub not_installed_covers : (why : ShareFault) → IsNotInstalled keeping (candidate number version origin) why old new
        → Covers keeping.history keeping.faults started new.maps (already + failures_in why)
    not_installed_covers (Shut why) is =
        let before = the_map old.maps number within in
        let count = is.upheld.elsewhere.count in
        let after = the_map new.maps number (omega (arith, count, within)) in
        covers_then keeping.history keeping.faults started already (failures_in (Shut why)) number old.maps new.maps before.0 after.0
        is.upheld.elsewhere within before.1 after.1 (shut old new before.0 after.0 before.1 after.1 why is) covers
    not_installed_covers (Unfit why) is = refused_covers why is
    not_installed_covers Untold is = absurd is

-- fewer failures are covered, too
pub covers_fewer : {D : Type 0} (history : D → Option History) (faults : D → ℕ) (started fewer more : ℕ) (maps : List (StoredMap D))
    → fewer ≤ more → Covers history faults started maps more → Covers history faults started maps fewer
covers_fewer history faults started fewer more maps le covers = λ all. let all_of = covers all in omega (arith, le, all_of)

-- before the first
pub covers_none : {D : Type 0} (history : D → Option History) (faults : D → ℕ) (started : ℕ) (maps : List (StoredMap D))
    → faults_over faults (disks_of maps) ≡ started → Covers history faults started maps 0
covers_none history faults started maps is = λ all. omega (arith, is)

-- behind an install or a refusal
pub covers_after : {T D B : Type 0} (keeping : Keeping D B) (number started already : ℕ) (version : MapVersion) (origin : Origin)
    (old new : Published D B) (r : Result T ShareFault) → number < length old.maps
    → OnOk r (OpensAndInstalls keeping (candidate number version origin) old new)
    → IfErr r (λ why. IsNotInstalled keeping (candidate number version origin) why old new)
    → Covers keeping.history keeping.faults started old.maps already
    → Covers keeping.history keeping.faults started new.maps (already + failures_of r)
covers_after keeping number started already version origin old new (Ok done) within is none covers =
    subst (λ (n : ℕ). Covers keeping.history keeping.faults started new.maps n) (omega arith)
    (installed_covers keeping number started already version origin old new within covers is)
covers_after keeping number started already version origin old new (Err why) within is none covers =
    not_installed_covers keeping number started already version origin old new within covers why none
