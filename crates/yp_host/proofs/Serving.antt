-- A connection, from the disks that were loaded and the session that ran.
use Rattle.std.proofs.Common.{◌≡◌, inl, inr, ℕ, ◌≤◌, List, [], ◌∷◌, length, slice_get, Option, IfSome, IsSome, refl, sym, ◌∙◌, ap, subst, arith, All}
use Rattle.std.specs.List.{AllZip}
use Rattle.std.proofs.lemmas.List.{length-map}
use Rattle.std.proofs.lemmas.Option.{slice_get-map}
use Rattle.std.proofs.lemmas.Slice.Zip.{AllZip-long}
use Rattle.yp_io.specs.Disk.{History}
use Rattle.yp_map_file.specs.Stands.{file_max}
use Rattle.yp_version.specs.Versions.{IsVersion}
use Rattle.yp_board.specs.Catalogues.{IsCatalogue}
use Rattle.yp_board.specs.Logs.{Log, starts}
use Rattle.yp_publisher.specs.inside.Laws.{StartsAreShown, LogRises, BeginningIsStart}
use Rattle.yp_publisher.specs.Standing.{MapStanding, StoredMap, Published, At, Shows, versions}
use Rattle.yp_publisher.specs.Opens.{IsOpened}
use Rattle.yp_publisher.specs.Begins.{IsUnwritten}
use Rattle.yp_answer.specs.session.Wires.{Wire}
use Rattle.yp_answer.specs.session.Progress.{Progress, begun}
use Rattle.yp_answer.specs.session.Hosts.{Turn}
use Rattle.yp_answer.specs.session.Runs.{dialogue_at, Runs}
use Rattle.yp_answer.specs.declared.session.session.End.{End}
use Rattle.yp_answer.specs.declared.session.session.TheConstants.{CALLS_MAX}
use Rattle.yp_answer.specs.Causes.{TellsSame}
use Rattle.yp_host.specs.Locals.{Local, IsUsed}
use Rattle.yp_publisher.specs.Grown.{IsShownOrMade, LeavesByFronts, OrAsBefore, IsBehindMade, AtDisk, LeavesOr, AreTold}
use Rattle.yp_host.specs.Connections.{Service, Connection, local_conduct, IsFirstHost, IsLastHost, Transition, transitions_of, IsGiven, given_in, log_of, ServesConnection}
use Rattle.yp_publisher.proofs.Leaving.{weaker, left_alone, both_leave_or, told_on, opt_both, opt_then, opt_second, opt_at, opt_put_map, same_places, zip_at, all_at}
use Rattle.yp_publisher.proofs.Growing.{front_none}
use Rattle.yp_publisher.proofs.Chains.{by_one_log, by_fronts_then, by_fronts_so}
use Rattle.yp_publisher.proofs.Leading.{rises_from}
use Rattle.yp_host.proofs.Hosting.{SoundHost, GoesOnTo, session_on}

-- ---- disks that were only opened

module _ {D : Type 0} (history : D → Option History) (faults : D → ℕ) where
  -- disks that weren't called
  pub uncalled : (disks : List D) → AllZip (IsUnwritten history faults) disks disks
  uncalled [] = tt
  uncalled (disk ∷ disks) = (record { moments = left_alone (history disk) (λ image left. left); never_falls = omega arith }, uncalled disks)

  pub bound_at : (old new : List D) → AllZip (IsUnwritten history faults) old new → (number : ℕ) → AtDisk number old new (LeavesOr history (λ image. length image ≤ file_max))
  bound_at old new all number =
      opt_both (slice_get old number) (slice_get new number)
      (λ before after there here u. weaker (history before) (history after) (λ told image left. inl left) u.moments) (zip_at (IsUnwritten history faults) old new number all)

  pub falls_at : (old new : List D) → AllZip (IsUnwritten history faults) old new → (number : ℕ) → AtDisk number old new (λ before after. faults before ≤ faults after)
  falls_at old new all number = opt_both (slice_get old number) (slice_get new number) (λ before after there here u. u.never_falls) (zip_at (IsUnwritten history faults) old new number all)

  pub count_of : (old new : List D) → AllZip (IsUnwritten history faults) old new → length new ≡ length old
  count_of old new all = AllZip-long (IsUnwritten history faults) old new all

-- ---- a connection that was served

module _ {D B E : Type 0} (service : Service D B E) (old new : Connection D E) (start finish : Local D B E) where
  -- the host that is made of what was opened
  pub first_from : (published : Published D B) → start ≡ record { published = published; desk = old.desk; asked = 0; files = 0; transfers = 0 } → published.catalogue ≡ service.catalogue
      → AllZip (IsOpened service.keeping.history service.keeping.faults) old.disks published.maps → service.keeping.log published.board ≡ starts 0 (versions published.maps) → IsFirstHost service old start
  first_from published is served opened log =
      subst (λ (host : Local D B E). IsFirstHost service old host) (sym is)
      record { catalogue = served; opened = opened; log = log; begun = refl }

  first_sound : (turns : List Turn) (transitions : List (Transition (Local D B E))) → StartsAreShown → IsFirstHost service old start → SoundHost service turns transitions (service.telling.told old.desk) (service.telling.hosts old.desk) start
  first_sound turns transitions law first = record {
    maps = record {
      shows = subst (λ (l : Log). Shows l (versions start.published.maps)) (sym first.log) (law (versions start.published.maps));
      standing = λ number.
          opt_second {P = IsOpened service.keeping.history service.keeping.faults} (slice_get old.disks number) (slice_get start.published.maps number)
          (same_places start.published.maps old.disks number (AllZip-long (IsOpened service.keeping.history service.keeping.faults) old.disks start.published.maps first.opened))
          (λ disk kept there here opened. opened.standing)
          (zip_at (IsOpened service.keeping.history service.keeping.faults) old.disks start.published.maps number first.opened);
      behind = λ number.
          opt_second {P = IsOpened service.keeping.history service.keeping.faults} (slice_get old.disks number) (slice_get start.published.maps number)
          (same_places start.published.maps old.disks number (AllZip-long (IsOpened service.keeping.history service.keeping.faults) old.disks start.published.maps first.opened))
          (λ disk kept there here opened told. subst (λ (s : MapStanding). IsBehindMade (IsGiven service turns transitions (service.telling.told old.desk) (service.telling.hosts old.desk)) number (service.keeping.log start.published.board) s) (sym opened.level) tt)
          (zip_at (IsOpened service.keeping.history service.keeping.faults) old.disks start.published.maps number first.opened);
    };
    catalogue = first.catalogue;
    told = subst (λ (d : E). TellsSame (service.telling.told old.desk) (service.telling.told d)) (sym (ap (λ (h : Local D B E). h.desk) first.begun)) (record { texts = λ file. refl; moment = refl });
    hosts = ap service.telling.hosts (ap (λ (h : Local D B E). h.desk) first.begun);
  }

  pub went_on : StartsAreShown → (end : End) (progress : Progress) (wires : List Wire) → IsFirstHost service old start
      → (runs : Runs (local_conduct service.keeping service.telling) service.peer CALLS_MAX end (dialogue_at start old.wire begun) (dialogue_at finish new.wire progress) wires)
      → GoesOnTo service runs.turns (transitions_of (dialogue_at start old.wire begun) runs.answered) (service.telling.told old.desk) (service.telling.hosts old.desk) start finish
  went_on shown end progress wires first runs =
      session_on service (service.telling.told old.desk) (service.telling.hosts old.desk) CALLS_MAX end (dialogue_at start old.wire begun) (dialogue_at finish new.wire progress) wires runs (first_sound runs.turns (transitions_of (dialogue_at start old.wire begun) runs.answered) shown first)

  -- what holds of a disk from its opening to its handing back
  through : (P : D → D → Type 0) (Q : StoredMap D → StoredMap D → Type 0) (number : ℕ)
      → ((disk : D) (before after : StoredMap D) → IsOpened service.keeping.history service.keeping.faults disk before → Q before after → P disk after.disk)
      → IsFirstHost service old start → At number start.published.maps finish.published.maps Q → IsLastHost service finish new → AtDisk number old.disks new.disks P
  through P Q number f first at last =
      opt_put_map P (λ (kept : StoredMap D). kept.disk) (slice_get old.disks number) (slice_get finish.published.maps number) (slice_get new.disks number)
      (ap (λ (l : List D). slice_get l number) last.disks ∙ slice_get-map (λ (kept : StoredMap D). kept.disk) finish.published.maps number)
      (opt_then (slice_get old.disks number) (slice_get start.published.maps number) (slice_get finish.published.maps number)
      (same_places old.disks start.published.maps number (sym (AllZip-long (IsOpened service.keeping.history service.keeping.faults) old.disks start.published.maps first.opened)))
      f (zip_at (IsOpened service.keeping.history service.keeping.faults) old.disks start.published.maps number first.opened) at)

  -- the moments of the opening, and those behind it
  with_opening : {P : List ℕ → Type 0} (disk : D) (before after : StoredMap D) → IsOpened service.keeping.history service.keeping.faults disk before
      → LeavesOr service.keeping.history P before.disk after.disk → LeavesOr service.keeping.history P disk after.disk
  with_opening disk before after opened leaves =
      both_leave_or (service.keeping.history disk) (service.keeping.history before.disk) (service.keeping.history after.disk)
      (weaker (service.keeping.history disk) (service.keeping.history before.disk) (λ told image left. inl left) opened.moments) leaves

  -- the same of fronts of the log: at the moments of the opening it is the first one
  fronts_with_opening : {P : Log → List ℕ → Type 0} (disk : D) (before after : StoredMap D) → IsOpened service.keeping.history service.keeping.faults disk before
      → LeavesByFronts P (service.keeping.history before.disk) (service.keeping.history after.disk) (log_of service start) (log_of service finish)
      → LeavesByFronts (OrAsBefore (service.keeping.history disk) (log_of service start) P) (service.keeping.history disk) (service.keeping.history after.disk)
      (log_of service start) (log_of service finish)
  fronts_with_opening {P} disk before after opened leaves =
      let first = log_of service start in
      by_fronts_then (service.keeping.history disk) (service.keeping.history before.disk) (service.keeping.history after.disk) first first (log_of service finish)
      (by_one_log (service.keeping.history disk) (service.keeping.history before.disk) first first (front_none first first refl)
      (weaker (service.keeping.history disk) (service.keeping.history before.disk) (λ told image left. inl (left, refl)) opened.moments))
      (by_fronts_so (service.keeping.history before.disk) (service.keeping.history after.disk) first (log_of service finish) (λ log image is. inr is) leaves)

  told_maps : IsFirstHost service old start → AreTold service.keeping.history old.disks → (number : ℕ)
      → IfSome (slice_get start.published.maps number) (λ kept. IsSome (service.keeping.history kept.disk))
  told_maps first told number =
      opt_second {P = IsOpened service.keeping.history service.keeping.faults} (slice_get old.disks number) (slice_get start.published.maps number)
      (same_places start.published.maps old.disks number (AllZip-long (IsOpened service.keeping.history service.keeping.faults) old.disks start.published.maps first.opened))
      (λ disk kept there here opened. told_on (service.keeping.history disk) (service.keeping.history kept.disk) opened.moments.goes_on
      (opt_at (λ (d : D). IsSome (service.keeping.history d)) (slice_get old.disks number) disk there (all_at (λ (d : D). IsSome (service.keeping.history d)) old.disks number told)))
      (zip_at (IsOpened service.keeping.history service.keeping.faults) old.disks start.published.maps number first.opened)

  pub served : LogRises → BeginningIsStart → (end : End) (progress : Progress) (wires : List Wire) → IsFirstHost service old start
      → (runs : Runs (local_conduct service.keeping service.telling) service.peer CALLS_MAX end (dialogue_at start old.wire begun) (dialogue_at finish new.wire progress) wires)
      → GoesOnTo service runs.turns (transitions_of (dialogue_at start old.wire begun) runs.answered) (service.telling.told old.desk) (service.telling.hosts old.desk) start finish → IsLastHost service finish new
      → IsCatalogue service.catalogue → All (λ entry. IsVersion entry.1) (log_of service finish) → ServesConnection service end old new wires
  served rises begins end progress wires first runs went last catalogue versions = record {
    start = start;
    finish = finish;
    progress = progress;
    first = first;
    runs = runs;
    last = last;
    any_moment = λ number.
        let Is = given_in service old start runs.turns runs.answered in
        through (λ before after. LeavesByFronts (OrAsBefore (service.keeping.history before) (log_of service start) (IsShownOrMade Is number))
        (service.keeping.history before) (service.keeping.history after) (log_of service start) (log_of service finish))
        (λ before after. LeavesByFronts (IsShownOrMade Is number) (service.keeping.history before.disk) (service.keeping.history after.disk)
        (log_of service start) (log_of service finish))
        number fronts_with_opening first (went.1.maps.moments number) last;
    behind = went.0.maps.behind;
    grown = λ told. went.1.maps.entries (told_maps first told);
    rises = λ told. rises_from rises begins service.keeping.history service.keeping.faults old.disks start.published.maps (service.keeping.log start.published.board) (service.keeping.log finish.published.board) _
        first.opened first.log (went.1.maps.leads (told_maps first told));
    served = record { catalogue = catalogue; versions = versions };
  }

  pub served_bound : {turns : List Turn} {transitions : List (Transition (Local D B E))} → IsFirstHost service old start → GoesOnTo service turns transitions (service.telling.told old.desk) (service.telling.hosts old.desk) start finish → IsLastHost service finish new
      → (number : ℕ) → AtDisk number old.disks new.disks (LeavesOr service.keeping.history (λ image. length image ≤ file_max))
  served_bound first went last number =
      through (LeavesOr service.keeping.history (λ image. length image ≤ file_max)) (λ before after. LeavesOr service.keeping.history (λ image. length image ≤ file_max) before.disk after.disk)
      number with_opening first (went.1.maps.bound number) last

  pub served_falls : {turns : List Turn} {transitions : List (Transition (Local D B E))} → IsFirstHost service old start → GoesOnTo service turns transitions (service.telling.told old.desk) (service.telling.hosts old.desk) start finish → IsLastHost service finish new
      → (number : ℕ) → AtDisk number old.disks new.disks (λ before after. service.keeping.faults before ≤ service.keeping.faults after)
  served_falls first went last number =
      through (λ before after. service.keeping.faults before ≤ service.keeping.faults after) (λ before after. service.keeping.faults before.disk ≤ service.keeping.faults after.disk)
      number (λ disk before after opened le. omega (arith, opened.never_falls)) first (went.1.maps.never_falls number) last

  pub served_count : {turns : List Turn} {transitions : List (Transition (Local D B E))} → IsFirstHost service old start → GoesOnTo service turns transitions (service.telling.told old.desk) (service.telling.hosts old.desk) start finish → IsLastHost service finish new → length new.disks ≡ length old.disks
  served_count first went last =
      ap length last.disks ∙ length-map finish.published.maps (λ (kept : StoredMap D). kept.disk) ∙ went.1.maps.count
      ∙ AllZip-long (IsOpened service.keeping.history service.keeping.faults) old.disks start.published.maps first.opened

  pub served_desk : {turns : List Turn} {transitions : List (Transition (Local D B E))} → IsFirstHost service old start → GoesOnTo service turns transitions (service.telling.told old.desk) (service.telling.hosts old.desk) start finish → IsLastHost service finish new → IsUsed service.telling old.desk new.desk
  served_desk first went last =
      subst (λ (d : E). IsUsed service.telling d new.desk) (ap (λ (h : Local D B E). h.desk) first.begun)
      (subst (λ (d : E). IsUsed service.telling start.desk d) (sym last.desk) went.1.desk)
