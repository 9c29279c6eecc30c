-- The making of a map from its steps.
use Rattle.std.proofs.Common.{◌≡◌, ◌<◌, ◌≤◌, ◌==◌, inl, inr, ℕ, Bool, true, false, if◌then◌else◌, List, length, slice_get, Option, None, Some, IfSome, Result, Ok, Err, IfErr, IsErrAnd, refl, sym, ◌∙◌, ap, subst, arith}
use Rattle.std.proofs.lemmas.Option.{slice_get_cases}
use Rattle.std.specs.Option.{option_or}
use Rattle.yp_messages.specs.declared.transfer.XfrStat.{XfrStat}
use Rattle.yp_version.specs.Versions.{MapVersion}
use Rattle.yp_answer.specs.declared.make.MakeJob.{MakeJob}
use Rattle.yp_map_file.specs.Commits.{generation_max}
use Rattle.yp_publisher.specs.declared.install.InstallFault.{InstallFault}
use Rattle.yp_publisher.specs.declared.install.InstallFault.TheVariants as install
use Rattle.yp_publisher.specs.Standing.{MapStanding, Level, StoredMap, Published, OfMap}
use Rattle.yp_publisher.specs.Keeping.{Keeping}
use Rattle.yp_publisher.specs.Installs.{OfferedVersion, Refusal, IsBehind, HasMaster, IsNotNewer, IsSpent, is_behind, not_following, no_further, install_refusal, IsInstallCause, Refuses}
use Rattle.yp_publisher.specs.Stats.{install_stat}
use Rattle.yp_host.specs.Locals.{Local, Telling, IsUsed, LeavesDial}
use Rattle.yp_publisher.specs.Opens.{Opens}
use Rattle.yp_answer.specs.Causes.{IsAnew}
use Rattle.yp_host.specs.Anew.{IsUnbuilt}
use Rattle.yp_host.specs.Making.{IsInstallStat, built_offer, OffersBuilt, task_on, Tries, Makes}
use Rattle.yp_host.proofs.Building.{if_err}

-- ---- a version that isn't installed

-- what stands against a version that follows what is shown of a level map is that the last generation is reached
level_cause : {D : Type 0} (own : List ℕ) (offered : OfferedVersion) (kept : StoredMap D) (why : Refusal) → kept.standing ≡ Level
    → not_following own offered kept.version ≡ None → install_refusal own offered kept ≡ Some why → why ≡ IsSpent
level_cause own offered kept why level follows is = by_end (kept.generation == generation_max) at_end where
  at_end : no_further kept.generation ≡ Some why
  at_end =
      sym (
      ap (λ (s : MapStanding). if is_behind s then Some IsBehind else option_or (not_following own offered kept.version) (no_further kept.generation)) level
      ∙ ap (λ (o : Option Refusal). option_or o (no_further kept.generation)) follows
      ) ∙ is

  by_end : (b : Bool) → (if b then Some IsSpent else None) ≡ Some why → why ≡ IsSpent
  by_end true h = cc
  by_end false h = absurd cc

of_map : {D : Type 0} (P : StoredMap D → Type 0) (number : ℕ) (maps : List (StoredMap D)) (kept : StoredMap D)
    → slice_get maps number ≡ Some kept → OfMap number maps P → P kept
of_map {D} P number maps kept here h = subst (λ (o : Option (StoredMap D)). IfSome o P) here h

-- a version that was built for a level map, behind what is shown of it, is refused for its file or for want of memory
pub uninstalled_stat : {D B : Type 0} (keeping : Keeping D B) (number : ℕ) (version : MapVersion) (fault : InstallFault)
    (old new : Published D B) → number < length old.maps → OfMap number old.maps (λ kept. kept.standing ≡ Level)
    → OfMap number old.maps (λ kept. not_following old.catalogue.own (built_offer version) kept.version ≡ None)
    → Refuses keeping number (built_offer version) fault old new → IsInstallStat fault (install_stat fault)
uninstalled_stat {D} {B} keeping number version fault old new within level follows refuses =
    elim (slice_get_cases old.maps number).1 [
      | inl here ↦ by_fault here.0 fault
          (of_map (λ k. k.standing ≡ Level) number old.maps here.0 here.2 level)
          (of_map (λ k. not_following own (built_offer version) k.version ≡ None) number old.maps here.0 here.2 follows)
          (of_map (λ k. IsInstallCause fault (install_refusal own (built_offer version) k)) number old.maps here.0 here.2 refuses.cause)
      | inr past ↦ let le : length old.maps ≤ number = past.0 in absurd (omega arith)
    ] where
      own : List ℕ
      own = old.catalogue.own

      by_fault : (kept : StoredMap D) (fault : InstallFault) → kept.standing ≡ Level
          → not_following own (built_offer version) kept.version ≡ None
          → IsInstallCause fault (install_refusal own (built_offer version) kept) → IsInstallStat fault (install_stat fault)
      by_fault kept install.Behind level follows cause =
          let spent = level_cause own (built_offer version) kept IsBehind level follows cause in absurd cc
      by_fault kept (install.Refused master) level follows cause =
          let spent = level_cause own (built_offer version) kept (HasMaster master.items) level follows cause in absurd cc
      by_fault kept (install.Age shown order) level follows cause =
          let spent = level_cause own (built_offer version) kept (IsNotNewer shown order) level follows cause in absurd cc
      by_fault kept install.GenerationsSpent level follows cause = refl
      by_fault kept install.DiskFault level follows cause = refl
      by_fault kept install.NoMemory level follows cause = refl

-- ---- a level map

module _ {T D B E : Type 0} (keeping : Keeping D B) (telling : Telling E) (job : MakeJob) (r : Result T XfrStat) (inside old new : Local D B E) (is : inside ≡ old) where
  abbrev TriesFrom : Local D B E → XfrStat → Type 0
  TriesFrom from stat = Tries keeping telling job stat from new

  at_err : (r : Result T XfrStat) (stat : XfrStat) (P : XfrStat → Type 0) → IsErrAnd r (λ other. other ≡ stat) → P stat → IfErr r P
  at_err (Ok x) stat P same h = tt
  at_err (Err other) stat P same h = subst P (sym same) h

  -- no version was built of it
  pub none_built : (stat : XfrStat) → IsErrAnd r (λ other. other ≡ stat)
      → IsUnbuilt (telling.told inside.desk) (telling.faults inside.desk) (telling.faults new.desk) (task_on keeping job inside.published) stat
      → new.published ≡ inside.published → IfErr r (TriesFrom old)
  none_built stat same none stays = at_err r stat (TriesFrom old) same (subst (λ (o : Local D B E). TriesFrom o stat) is (inl (none, stays)))

  -- one was built, and wasn't installed
  pub one_built : (version : MapVersion) → IsAnew (telling.told inside.desk) (task_on keeping job inside.published) version
      → IfErr r (λ stat. OffersBuilt keeping job.map version stat inside.published new.published) → IfErr r (TriesFrom old)
  one_built version anew offers = subst (λ (o : Local D B E). IfErr r (TriesFrom o)) is (if_err r (λ stat one. inr (version, anew, one)) offers)

-- ---- its steps

-- a map is opened, and then it is tried to make it
pub made_from : {D B E : Type 0} (keeping : Keeping D B) (telling : Telling E) (job : MakeJob) (stat : XfrStat)
    (inside old new : Local D B E) (middle : Published D B)
    → inside ≡ old → IsUsed telling inside.desk new.desk → LeavesDial telling inside.desk new.desk → new.asked ≡ inside.asked → new.transfers ≡ inside.transfers
    → Opens keeping job.map inside.published middle → Tries keeping telling job stat (record inside { published = middle }) new
    → Makes keeping telling job stat old new
made_from {D} {B} {E} keeping telling job stat inside old new middle is desk dial asked transfers opens tries =
    subst (λ (o : Local D B E). Makes keeping telling job stat o new) is
    record { desk = desk; dial = dial; asked = asked; transfers = transfers; ends = inr record { middle = middle; opens = opens; tries = tries } }

-- the count of FILE is no part of it
pub recounted : {D B E : Type 0} (keeping : Keeping D B) (telling : Telling E) (job : MakeJob) (stat : XfrStat)
    (old inside new : Local D B E) (files : ℕ)
    → inside ≡ new → Makes keeping telling job stat old new → Makes keeping telling job stat old (record inside { files = files })
recounted {D} {B} {E} keeping telling job stat old inside new files is made =
    subst (λ (n : Local D B E). Makes keeping telling job stat old (record n { files = files })) (sym is) again where
      again : Makes keeping telling job stat old (record new { files = files })
      again = record {
        desk = made.desk;
        dial = made.dial;
        asked = made.asked;
        transfers = made.transfers;
        ends = elim made.ends [ inl stays ↦ inl stays | inr tries ↦ inr record { middle = tries.middle; opens = tries.opens; tries = tries.tries } ];
      }
