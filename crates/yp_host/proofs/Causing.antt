-- Why a map that was made has its status.
use Rattle.std.proofs.Common.{◌≡◌, inl, inr, ℕ, ◌<◌, true, List, [], ◌∷◌, ◌++◌, length, Option, Some, None, refl, sym, ◌∙◌, ap, subst, arith, is_some}
use Rattle.std.proofs.lemmas.List.{append-nil, length-append}
use Rattle.yp_messages.specs.declared.transfer.XfrStat.{XfrStat}
use Rattle.yp_messages.specs.declared.transfer.XfrStat.TheVariants.{Succ, Age, Nomap, Nodom, Rsrc, Rpc, Maddr, Yperr, Badargs, Dbm, File, Skew, Clear, Force, Xfrerr, Refused}
use Rattle.yp_version.specs.Versions.{MapVersion}
use Rattle.yp_map_file.specs.declared.fault.SlotFault.{SlotFault}
use Rattle.yp_map_file.specs.declared.fault.SlotFault.TheVariants as slot
use Rattle.yp_board.specs.Catalogues.{Catalogue}
use Rattle.yp_board.specs.Logs.{Log, shown}
use Rattle.yp_board.specs.Views.{IsFront}
use Rattle.yp_texts.specs.After.{other_master, HasLaterOrder}
use Rattle.yp_answer.specs.declared.make.MakeJob.{MakeJob}
use Rattle.yp_publisher.specs.declared.install.InstallFault.{InstallFault}
use Rattle.yp_publisher.specs.declared.install.InstallFault.TheVariants as install
use Rattle.yp_publisher.specs.Standing.{Published}
use Rattle.yp_publisher.specs.Rising.{PublisherState, with_shown}
use Rattle.yp_publisher.specs.Keeping.{Keeping}
use Rattle.yp_publisher.specs.Installs.{Installs}
use Rattle.yp_publisher.specs.Opens.{Opens}
use Rattle.yp_publisher.specs.Stats.{slot_stat}
use Rattle.yp_answer.specs.Causes.{IsAnew, IsCaused, RowIsBad, NetgroupsAreMissing, task_at}
use Rattle.yp_answer.specs.session.Hosts.{Fulfils, counts_after}
use Rattle.yp_host.specs.Locals.{Local, Telling}
use Rattle.yp_host.specs.Anew.{IsUnbuilt}
use Rattle.yp_host.specs.Making.{IsInstallStat, built_offer}
use Rattle.yp_host.specs.Making.{task_on, Makes, OpensAndTries}
use Rattle.yp_host.specs.Connections.{local_conduct}
use Rattle.yp_publisher.proofs.Growing.{opened_front}
use Rattle.yp_host.proofs.Reversing.{row_is_bad, none_shown}

-- a master is another's
another : (master : Option (List ℕ)) → is_some master ≡ true → (name : List ℕ) × (master ≡ Some name)
another None e = absurd cc
another (Some name) e = (name, refl)

-- a log isn't the one with more behind it
longer : (log : Log) (number : ℕ) (version : MapVersion) → with_shown number version log ≡ log → ⊥
longer log number version e =
    let same : length (log ++ (number, version) ∷ []) ≡ length log = ap length e in
    absurd (omega (arith, same, length-append log ((number, version) ∷ [])))

module _ {D B E : Type 0} (keeping : Keeping D B) (telling : Telling E) (job : MakeJob) (old new : Local D B E) where
  -- why it has a status
  abbrev Caused : XfrStat → Type 0
  Caused stat =
      IsCaused (telling.told old.desk) old.published.catalogue job stat (keeping.log old.published.board) (keeping.log new.published.board)

  -- what holds for the catalogue of the maps between holds for that of the maps before
  of_old : (P : Catalogue → Type 0) (middle : Published D B) → Opens keeping job.map old.published middle → P middle.catalogue → P old.published.catalogue
  of_old P middle opens h = subst P opens.upheld.catalogue h

  front_to : (middle : Published D B) → new.published ≡ middle → IsFront (keeping.log middle.board) (keeping.log new.published.board)
  front_to middle e = ([], ap (λ (p : Published D B). keeping.log p.board) e ∙ sym (append-nil (keeping.log middle.board)))

  -- an order over the last one
  over : (version : MapVersion) (middle : Published D B) → Installs keeping job.map (built_offer version) middle new.published
      → HasLaterOrder (shown job.map (keeping.log middle.board)) version
  over version middle installs = elim (installs.rising refl) [
    | inl e ↦ absurd (longer (keeping.log middle.board) job.map version (sym installs.log ∙ ap (λ (m : PublisherState). m.log) e))
    | inr stores ↦ stores.0
  ]

  opens_on : job.map < length old.published.maps → (middle : Published D B) → Opens keeping job.map old.published middle
      → IsFront (keeping.log old.published.board) (keeping.log middle.board)
  opens_on kept middle opens = opened_front keeping.log job.map old.published middle kept opens.upheld.elsewhere opens.shown

  shown_anew : job.map < length old.published.maps → (version : MapVersion) (middle : Published D B) → Opens keeping job.map old.published middle
      → IsAnew (telling.told old.desk) (task_on keeping job middle) version → Installs keeping job.map (built_offer version) middle new.published → Caused Succ
  shown_anew kept version middle opens anew installs =
      let log = keeping.log middle.board in
      record {
        version = version;
        before = log;
        entry = ([], installs.log ∙ sym (append-nil (with_shown job.map version log)));
        anew = record {
          log = log;
          begins = opens_on kept middle opens;
          goes_on = ((job.map, version) ∷ [], installs.log);
          holds = of_old (λ k. IsAnew (telling.told old.desk) (task_at k job log) version) middle opens anew;
        };
        over = record {
          log = log;
          begins = opens_on kept middle opens;
          goes_on = ((job.map, version) ∷ [], installs.log);
          holds = over version middle installs;
        };
      }

  unbuilt : job.map < length old.published.maps → (stat : XfrStat) (middle : Published D B) → Opens keeping job.map old.published middle → new.published ≡ middle
      → IsUnbuilt (telling.told old.desk) (telling.faults old.desk) (telling.faults new.desk) (task_on keeping job middle) stat → Caused stat
  unbuilt kept Refused middle opens same none =
      let log = keeping.log middle.board in
      let master = of_old (λ k. (master : List ℕ) × (other_master k.own (shown job.map log) ≡ Some master)) middle opens
      (another (other_master middle.catalogue.own (shown job.map log)) none) in
      (log, front_to middle same, master.0, master.1)
  unbuilt kept Age middle opens same none = (keeping.log middle.board, front_to middle same, none.1)
  unbuilt kept Dbm middle opens same none =
      let log = keeping.log middle.board in
      of_old (λ k. RowIsBad (telling.told old.desk) k job job.making (keeping.log old.published.board) (keeping.log new.published.board)) middle opens
      (row_is_bad (telling.told old.desk) middle.catalogue job job.making (keeping.log old.published.board) log (keeping.log new.published.board) (opens_on kept middle opens)
      (front_to middle same) none.1)
  unbuilt kept File middle opens same none = tt
  unbuilt kept Rsrc middle opens same none = tt
  unbuilt kept Succ middle opens same none = absurd none
  unbuilt kept Nomap middle opens same none =
      let log = keeping.log middle.board in
      of_old (λ k. NetgroupsAreMissing k job job.making (keeping.log old.published.board) (keeping.log new.published.board)) middle opens
      (none_shown middle.catalogue job job.making (keeping.log old.published.board) log (keeping.log new.published.board) (opens_on kept middle opens)
      (front_to middle same) none.1)
  unbuilt kept Nodom middle opens same none = absurd none
  unbuilt kept Rpc middle opens same none = absurd none
  unbuilt kept Maddr middle opens same none = absurd none
  unbuilt kept Yperr middle opens same none = absurd none
  unbuilt kept Badargs middle opens same none = absurd none
  unbuilt kept Skew middle opens same none = absurd none
  unbuilt kept Clear middle opens same none = absurd none
  unbuilt kept Force middle opens same none = absurd none
  unbuilt kept Xfrerr middle opens same none = absurd none

  uninstalled : (fault : InstallFault) (stat : XfrStat) → IsInstallStat fault stat → Caused stat
  uninstalled install.GenerationsSpent stat is = subst Caused (sym is) tt
  uninstalled install.DiskFault stat is = subst Caused (sym is) tt
  uninstalled install.NoMemory stat is = subst Caused (sym is) tt
  uninstalled install.Behind stat is = absurd is
  uninstalled (install.Refused master) stat is = absurd is
  uninstalled (install.Age shown order) stat is = absurd is

  tried : job.map < length old.published.maps → (stat : XfrStat) → OpensAndTries keeping telling job stat old new → Caused stat
  tried kept stat step = elim step.tries [
    | inl none ↦ unbuilt kept stat step.middle step.opens none.1 none.0
    | inr made ↦ elim made.2 [
      | inl done ↦ subst Caused (sym done.0) (shown_anew kept made.0 step.middle step.opens made.1 done.1)
      | inr failed ↦ uninstalled failed.fault stat failed.stat_is
    ]
  ]

  unopened : (fault : SlotFault) → Caused (slot_stat fault)
  unopened slot.NoMemory = tt
  unopened slot.DiskFault = tt
  unopened (slot.Damaged at rule) = tt

  -- a map that was made has its status for a reason
  caused : (stat : XfrStat) → job.map < length old.published.maps → Makes keeping telling job stat old new → Caused stat
  caused stat kept made = elim made.ends [
    | inl stays ↦ subst Caused (sym stays.stat_is) (unopened stays.fault)
    | inr step ↦ tried kept stat step
  ]

  -- what a host of one thread does for an open MAKE
  pub fulfilled : (stat : XfrStat) → job.map < length old.published.maps → Makes keeping telling job stat old new
      → new.published.catalogue ≡ old.published.catalogue → IsFront (keeping.log old.published.board) (keeping.log new.published.board)
      → (local_conduct keeping telling).counts new ≡ counts_after ((local_conduct keeping telling).counts old) stat
      → Fulfils (local_conduct keeping telling) job stat old new
  fulfilled stat kept made catalogue grown counted =
      record { made = (kept, made); cause = caused stat kept made; catalogue = catalogue; grown = grown; counted = counted }
