-- What a transfer of the only map of a publisher does to its dial and to its disk.
use Rattle.std.proofs.Common.{◌≡◌, ◌⊎◌, inl, inr, ⊎_elim, ℕ, ◌+◌, ◌≤◌, Bool, true, false, cond, List, [], ◌∷◌, length, map}
use Rattle.std.proofs.Common.{Option, Some, None, Result, Ok, Err, refl, sym, ap, ◌∙◌, subst, arith}
use Rattle.std.specs.Prelude.{IfSome, OnOk, IsSome, option_map, slice_get}
use Rattle.std.specs.Option.{option_or}
use Rattle.std.specs.List.{AllZip}
use Rattle.yp_io.specs.Counts.{HasRisen}
use Rattle.yp_io.specs.Disk.{History, LeavesOnly, MayLeave}
use Rattle.yp_io.specs.inside.DiskLaws.{counts_now}
use Rattle.yp_version.specs.Versions.{MapVersion}
use Rattle.yp_map_file.specs.declared.fault.SlotFault.{SlotFault}
use Rattle.yp_map_file.specs.declared.fault.SlotFault.TheVariants as slot
use Rattle.yp_map_file.specs.Loads.{Loads}
use Rattle.yp_map_file.specs.Stands.{file_max, Stored, stands}
use Rattle.yp_board.specs.Catalogues.{Catalogue, Name}
use Rattle.yp_board.specs.Logs.{Log, shown, starts}
use Rattle.yp_board.specs.Views.{Seen}
use Rattle.yp_publisher.specs.declared.install.InstallFault.{InstallFault}
use Rattle.yp_publisher.specs.declared.install.InstallFault.TheVariants as install
use Rattle.yp_publisher.specs.declared.install.Installed.{Installed}
use Rattle.yp_publisher.specs.declared.install.Origin.TheVariants.{Fetched}
use Rattle.yp_publisher.specs.declared.open.OpenFault.{OpenFault}
use Rattle.yp_publisher.specs.declared.open.OpenFault.TheVariants as opening
use Rattle.yp_publisher.specs.Begins.{IsUnwritten, IsUnopened, plain_log}
use Rattle.yp_publisher.specs.inside.Begins.{BeginsLevel}
use Rattle.yp_publisher.specs.Installs.{OfferedVersion, Refusal, HasMaster, IsNotNewer, IsSpent, IsBehind, offer, not_following}
use Rattle.yp_publisher.specs.Installs.{no_further, is_behind, install_refusal, IsInstallCause, FaultLeaves}
use Rattle.yp_publisher.specs.Keeping.{Keeping, keeping_of, Upholds}
use Rattle.yp_publisher.specs.Opens.{IsOpened, DiskIsRefused}
use Rattle.yp_publisher.specs.Standing.{MapStanding, Level, Behind, StoredMap, Published, OfMap, At, StandsAs, stands_for, versions}
use Rattle.yp_transfer.specs.declared.fault.XfrFault.{XfrFault}
use Rattle.yp_transfer.specs.declared.fault.XfrFault.TheVariants as fault
use Rattle.yp_transfer.specs.Fetching.{Wanted, wanted_of, FetchOutcome}
use Rattle.yp_transfer.specs.HostTable.{HostList}
use Rattle.yp_io.specs.Dials.{Dialing}
use Rattle.yp_transfer.specs.Dialing.{FetchesFrom}
use Rattle.yp_transfer.specs.Installing.{marking, of_install, fetched_offer, IsTaken, IsNotTaken, Offers, InstallsFetched}
use Rattle.yp_transfer.specs.Installing.{OpensAndOffers}
use Rattle.yp_transfer.specs.Requests.{TransferRequest, request_of}
use Rattle.yp_transfer.specs.Transfers.{wanted_at, InstallsOutcome, transfer_state}
use Rattle.yp_transfer.specs.Transfers as transfers
use Rattle.yp_command.specs.office.Disks.{only_history, total_faults}
use Rattle.yp_command_maps.specs.declared.xfr.XfrStop.TheVariants as stop
use Rattle.yp_command_maps.specs.Disks.{DiskTells, only_tells}
use Rattle.yp_command_maps.specs.Build.{LeavesFew}
use Rattle.yp_command_maps.specs.Xfr.{Job, FileVersion, IsFileVersion, wanted, marked, against, IsFetchedIn, IsBeforeOrFetched, IsUnwanted}
use Rattle.yp_command_maps.specs.Xfr.{IsNotStored, StoresOutcome, StoresOn, TransfersOn, IsNotLoaded}
use Rattle.yp_command_maps.specs.inside.Xfr.{StoresFetched, XfrMoves}
use Rattle.yp_command_maps.specs.inside.Xfr.{catalogue_of, why_of_open, KeepsLoaded, LeavesUnloaded}
use Rattle.yp_command_maps.proofs.OnDisk.{then, nothing_left, all_told, by_front}

-- ---- one map

of_one : {D : Type 0} (maps : List (StoredMap D)) (kept : StoredMap D) (P : StoredMap D → Type 0) → maps ≡ kept ∷ [] → OfMap 0 maps P
    → P kept
of_one {D} maps kept P one h = subst (λ (l : List (StoredMap D)). OfMap 0 l P) one h

at_one : {D : Type 0} (olds news : List (StoredMap D)) (before after : StoredMap D) (P : StoredMap D → StoredMap D → Type 0)
    → olds ≡ before ∷ [] → news ≡ after ∷ [] → At 0 olds news P → P before after
at_one {D} olds news before after P old new h =
    of_one news after (P before) new (of_one olds before (λ kept. OfMap 0 news (P kept)) old h)

-- its version is what is shown first
shown_first : (version : Option MapVersion) → shown 0 (starts 0 (version ∷ [])) ≡ version
shown_first None = refl
shown_first (Some version) = refl

leaves_more : (old new : Option History) (P Q : List ℕ → Type 0) → ((image : List ℕ) → P image → Q image)
    → LeavesOnly old new P → LeavesOnly old new Q
leaves_more old new P Q f h = record { goes_on = h.goes_on; each = λ image left. f image (h.each image left) }

-- ---- refusals

some_none : {A : Type 0} (o : Option A) → IsSome o → o ≡ None → ⊥
some_none None h e = cc
some_none (Some x) h e = cc

at_level : (standing : MapStanding) (other : Option Refusal) → standing ≡ Level
    → cond (is_behind standing) (Some IsBehind) other ≡ other
at_level Level other e = refl
at_level (Behind failed) other e = absurd cc

by_tests : (foreign old spent : Bool) (master : List ℕ) (was is : ℕ)
    → option_or (cond foreign (Some (HasMaster master)) (cond old (Some (IsNotNewer was is)) None))
    (cond spent (Some IsSpent) None) ≡ Some IsBehind → ⊥
by_tests true old spent master was is e = cc
by_tests false true spent master was is e = cc
by_tests false false true master was is e = cc
by_tests false false false master was is e = cc

by_spent : (spent : Bool) → option_or None (cond spent (Some IsSpent) None) ≡ Some IsBehind → ⊥
by_spent true e = cc
by_spent false e = cc

-- what stands against a version isn't that its map is behind
never_behind : (own : List ℕ) (offered : OfferedVersion) (version : Option MapVersion) (generation : ℕ)
    → option_or (not_following own offered version) (no_further generation) ≡ Some IsBehind → ⊥
never_behind own offered None generation e = by_spent _ e
never_behind own offered (Some last) generation e = by_tests _ _ _ _ _ _ e

not_stored : (cause : Option Refusal) (Failed : Type 0) (why : InstallFault) → (cause ≡ Some IsBehind → ⊥)
    → IsInstallCause why cause → (why ≡ install.DiskFault → Failed) → IsNotStored cause Failed (of_install why)
not_stored cause Failed install.Behind never is failed = absurd (never is)
not_stored cause Failed (install.Refused master) never is failed = (master.items, is)
not_stored cause Failed (install.Age was offered) never is failed = is
not_stored cause Failed install.GenerationsSpent never is failed = inl is
not_stored cause Failed install.DiskFault never is failed = inr (is, failed refl)
not_stored cause Failed install.NoMemory never is failed = tt

not_stored_more : (cause : Option Refusal) (F G : Type 0) (why : XfrFault) → (F → G) → IsNotStored cause F why
    → IsNotStored cause G why
not_stored_more cause F G fault.Refused f h = h
not_stored_more cause F G (fault.Age was offered) f h = h
not_stored_more cause F G fault.File f h = ⊎_elim (λ spent. inl spent) (λ failed. inr (failed.0, f failed.1)) h
not_stored_more cause F G fault.NoMemory f h = tt
not_stored_more cause F G _ f h = absurd h

comes_more : (job : Job) (held : FileVersion) (F G : Type 0) (outcome : FetchOutcome) (result : Result Installed XfrFault)
    → (F → G) → StoresOutcome job held F outcome result → StoresOutcome job held G outcome result
comes_more job held F G (Err why) result f h = h
comes_more job held F G (Ok version) (Ok installed) f h = h
comes_more job held F G (Ok version) (Err why) f h = not_stored_more (against job held version) F G why f h

module _ {D : Type 0} (history : D → Option History) (faults : D → ℕ) (job : Job) where
  abbrev keeping : Keeping D Seen
  keeping = keeping_of history faults plain_log

  abbrev held_of : StoredMap D → FileVersion
  held_of kept = record { version = kept.version; generation = kept.generation }

  abbrev offer_of : StoredMap D → MapVersion → OfferedVersion
  offer_of kept version = offer (marked job (held_of kept) version) Fetched job.force

  -- a publisher of one map before and after, whose file was opened at first
  record One (disk : D) (before after : StoredMap D) (old new : Published D Seen) : Type 0 where
    olds : old.maps ≡ before ∷ []
    news : new.maps ≡ after ∷ []
    own : old.catalogue.own ≡ job.name
    maps : old.catalogue.maps ≡ job.store ∷ []
    shows : shown 0 old.board.known ≡ before.version
    opened : IsOpened history faults disk before

  -- what came of a fetch was stored, or wasn't
  record Puts (outcome : FetchOutcome) (result : Result Installed XfrFault) (before after : StoredMap D) : Type 0 where
    comes : StoresOutcome job (held_of before) (HasRisen (faults before.disk) (faults after.disk)) outcome result
    stored : OnOk result ((image : List ℕ) → MayLeave (history after.disk) image
        → IsFetchedIn job (held_of before) outcome image)
    moments : LeavesOnly (history before.disk) (history after.disk)
        (λ image. (stands image ≡ stands_for before.version) ⊎ IsFetchedIn job (held_of before) outcome image)
    unwritten : IsUnwanted job (held_of before) outcome → after ≡ before
    few : LeavesOnly (history before.disk) (history after.disk)
        (λ image. MayLeave (history before.disk) image ⊎ (length image ≤ file_max))
    never_falls : faults before.disk ≤ faults after.disk

  module _ (disk : D) (before after : StoredMap D) (old new : Published D Seen) (one : One disk before after old new) where
    stood : (image : List ℕ) → MayLeave (history before.disk) image → stands image ≡ stands_for before.version
    stood image left =
        subst (λ (s : MapStanding). StandsAs s before.version image) one.opened.level (one.opened.standing image left)

    same_kept : new ≡ old → after ≡ before
    same_kept same =
        let e : after ∷ [] ≡ before ∷ [] = sym one.news ∙ ap (λ (p : Published D Seen). p.maps) same ∙ one.olds in
        cc

    -- nothing came
    nothing_put : (why : XfrFault) → new ≡ old → Puts (Err why) (Err why) before after
    nothing_put why same =
        let is = same_kept same in
        let stays = λ (P : List ℕ → Type 0) (f : (image : List ℕ) → MayLeave (history before.disk) image → P image).
        subst (λ (kept : StoredMap D). LeavesOnly (history before.disk) (history kept.disk) P) (sym is)
        (nothing_left (history before.disk) P f) in
        record {
          comes = refl;
          stored = tt;
          moments = stays (λ image. (stands image ≡ stands_for before.version) ⊎ ⊥) (λ image left. inl (stood image left));
          unwritten = λ none. is;
          few = stays (λ image. MayLeave (history before.disk) image ⊎ (length image ≤ file_max)) (λ image left. inl left);
          never_falls = subst (λ (kept : StoredMap D). faults before.disk ≤ faults kept.disk) (sym is) (omega arith);
        }

    -- what is against a version
    refusal_is : (version : MapVersion)
        → install_refusal old.catalogue.own (offer_of before version) before ≡ against job (held_of before) version
    refusal_is version =
        at_level before.standing _ one.opened.level
        ∙ ap (λ (own : List ℕ). option_or (not_following own (offer_of before version) before.version)
        (no_further before.generation)) one.own

    meanwhile : (version : MapVersion)
        → LeavesOnly (history before.disk) (history after.disk) (λ image.
        StandsAs before.standing before.version image ⊎ (stands image ≡ Stored (marked job (held_of before) version)))
        → LeavesOnly (history before.disk) (history after.disk) (λ image.
        (stands image ≡ stands_for before.version) ⊎ (stands image ≡ Stored (marked job (held_of before) version)))
    meanwhile version h =
        leaves_more (history before.disk) (history after.disk) _ _ (λ image left. ⊎_elim
        (λ stand. inl (subst (λ (s : MapStanding). StandsAs s before.version image) one.opened.level stand))
        (λ is. inr is) left) h

    few_left : Upholds keeping 0 old new → LeavesOnly (history before.disk) (history after.disk)
        (λ image. MayLeave (history before.disk) image ⊎ (length image ≤ file_max))
    few_left upheld =
        leaves_more (history before.disk) (history after.disk) (λ image. length image ≤ file_max) _
        (λ image short. inr short)
        (at_one old.maps new.maps before after (λ b a. LeavesOnly (history b.disk) (history a.disk)
        (λ image. length image ≤ file_max)) one.olds one.news upheld.bound)

    kept_count : Upholds keeping 0 old new → faults before.disk ≤ faults after.disk
    kept_count upheld =
        at_one old.maps new.maps before after (λ b a. faults b.disk ≤ faults a.disk) one.olds one.news upheld.never_falls

    taken : (version : MapVersion) (installed : Installed)
        → IsTaken keeping 0 (offer_of before version) installed old new → Puts (Ok version) (Ok installed) before after
    taken version installed h =
        let offered = offer_of before version in
        let unopposed = of_one old.maps before
        (λ kept. install_refusal old.catalogue.own offered kept ≡ None) one.olds h.installs.unopposed in
        let is = at_one old.maps new.maps before after (λ b a. a ≡ record {
          disk = a.disk;
          generation = b.generation + 1;
          version = Some offered.version;
          standing = Level;
        }) one.olds one.news h.installs.installed in
        let standing = of_one new.maps after (λ kept. (image : List ℕ) → MayLeave (history kept.disk) image
        → StandsAs kept.standing kept.version image) one.news h.installs.upheld.standing in
        record {
          comes = (
            sym (refusal_is version) ∙ unopposed,
            of_one old.maps before (λ kept. installed ≡ record {
              order = version.order;
              generation = kept.generation + 1;
            }) one.olds h.answer,
          );
          stored = λ image left. subst (λ (kept : StoredMap D). StandsAs kept.standing kept.version image) is
              (standing image left);
          moments = meanwhile version (at_one old.maps new.maps before after
              (λ b a. LeavesOnly (history b.disk) (history a.disk) (λ image.
              StandsAs b.standing b.version image ⊎ (stands image ≡ Stored offered.version)))
              one.olds one.news h.installs.meanwhile);
          unwritten = λ unwanted. absurd (some_none (against job (held_of before) version) unwanted
              (sym (refusal_is version) ∙ unopposed));
          few = few_left h.installs.upheld;
          never_falls = kept_count h.installs.upheld;
        }

    -- what a fault leaves where something stands against the version
    left_same : (version : MapVersion) (why : InstallFault) → IsSome (against job (held_of before) version)
        → IsInstallCause why (against job (held_of before) version) → FaultLeaves keeping 0 (offer_of before version) why old new
        → new ≡ old
    left_same version install.Behind unwanted cause left = left
    left_same version (install.Refused master) unwanted cause left = left
    left_same version (install.Age was offered) unwanted cause left = left
    left_same version install.GenerationsSpent unwanted cause left = left
    left_same version install.DiskFault unwanted cause left = absurd (some_none _ unwanted cause)
    left_same version install.NoMemory unwanted cause left =
        ⊎_elim (λ same. same) (λ fails. absurd (some_none (against job (held_of before) version) unwanted
        (sym (refusal_is version) ∙ of_one old.maps before
        (λ kept. install_refusal old.catalogue.own (offer_of before version) kept ≡ None) one.olds fails.unopposed))) left

    disk_risen : (version : MapVersion) (why : InstallFault) → FaultLeaves keeping 0 (offer_of before version) why old new
        → why ≡ install.DiskFault → HasRisen (faults before.disk) (faults after.disk)
    disk_risen version install.DiskFault left is =
        at_one old.maps new.maps before after (λ b a. HasRisen (faults b.disk) (faults a.disk)) one.olds one.news
        left.cause
    disk_risen version _ left is = absurd cc

    not_taken : (version : MapVersion) (why : XfrFault)
        → IsNotTaken keeping 0 (offer_of before version) why old new → Puts (Ok version) (Err why) before after
    not_taken version why h =
        let offered = offer_of before version in
        let held = held_of before in
        let cause : IsInstallCause h.why (against job held version) =
        subst (λ (o : Option Refusal). IsInstallCause h.why o) (refusal_is version)
        (of_one old.maps before (λ kept. IsInstallCause h.why (install_refusal old.catalogue.own offered kept)) one.olds
        h.refuses.cause) in
        record {
          comes = subst (λ (f : XfrFault). IsNotStored (against job held version)
              (HasRisen (faults before.disk) (faults after.disk)) f) (sym h.fault_is)
              (not_stored (against job held version) _ h.why
              (never_behind job.name offered before.version before.generation) cause
              (disk_risen version h.why h.refuses.left));
          stored = tt;
          moments = meanwhile version (at_one old.maps new.maps before after
              (λ b a. LeavesOnly (history b.disk) (history a.disk) (λ image.
              StandsAs b.standing b.version image ⊎ (stands image ≡ Stored offered.version)))
              one.olds one.news h.refuses.meanwhile);
          unwritten = λ unwanted. same_kept (left_same version h.why unwanted cause h.refuses.left);
          few = few_left h.refuses.upheld;
          never_falls = kept_count h.refuses.upheld;
        }

    offered_put : (version : MapVersion) (result : Result Installed XfrFault)
        → Offers keeping 0 (offer_of before version) result old new → Puts (Ok version) result before after
    offered_put version (Ok installed) h = taken version installed h
    offered_put version (Err why) h = not_taken version why h

    -- the map is level, so it isn't opened again
    opens_put : (version : MapVersion) (result : Result Installed XfrFault)
        → InstallsFetched keeping (request_of 0 job.host.0 job.force job.flag) version result old new → Puts (Ok version) result before after
    opens_put version result (inl h) =
        absurd (of_one old.maps before (λ kept. kept.standing ≡ Level → ⊥) one.olds h.stays.behind one.opened.level)
    opens_put version result (inr h) =
        let same = of_one old.maps before (λ kept. kept.standing ≡ Level → h.middle ≡ old) one.olds h.opens.unchanged
        one.opened.level in
        let here = subst (λ (p : Published D Seen).
        Offers keeping 0 (fetched_offer keeping (request_of 0 job.host.0 job.force job.flag) version p) result p new) same h.offers in
        offered_put version result (subst (λ (v : Option MapVersion).
        Offers keeping 0 (offer (record version { secure = marking job.flag v }) Fetched job.force) result old new)
        one.shows here)

    put : (outcome : FetchOutcome) (result : Result Installed XfrFault)
        → InstallsOutcome keeping (request_of 0 job.host.0 job.force job.flag) outcome result old new
        → Puts outcome result before after
    put (Ok version) result h = opens_put version result h
    put (Err why) result h =
        subst (λ (r : Result Installed XfrFault). Puts (Err why) r before after) (sym h.0) (nothing_put why h.1)

    -- what the disk shows of it
    on_one : (outcome : FetchOutcome) (result : Result Installed XfrFault) → Puts outcome result before after
        → StoresOn job (held_of before) outcome result (only_tells history faults (disk ∷ []))
        (only_tells history faults (after.disk ∷ []))
    on_one outcome result puts = record {
      is_held = record { version = one.opened.stood.version; generation = one.opened.stood.generation };
      comes = comes_more job (held_of before) (HasRisen (faults before.disk) (faults after.disk)) _ outcome result
          (λ risen. omega (arith, one.opened.never_falls, risen)) puts.comes;
      stored = puts.stored;
      any_moment = then (history disk) (history before.disk) (history after.disk) (MayLeave (history disk))
          (λ image. (stands image ≡ stands_for before.version) ⊎ IsFetchedIn job (held_of before) outcome image)
          (IsBeforeOrFetched job (held_of before) outcome (history disk)) (λ image left. inl left)
          (λ image left. inr left) one.opened.moments puts.moments;
      unwritten = λ unwanted. subst (λ (kept : StoredMap D). LeavesOnly (history disk) (history kept.disk)
          (MayLeave (history disk))) (sym (puts.unwritten unwanted)) one.opened.moments;
    }

    few_on_one : (outcome : FetchOutcome) (result : Result Installed XfrFault) → Puts outcome result before after
        → LeavesFew (history disk) (history after.disk)
    few_on_one outcome result puts =
        then (history disk) (history before.disk) (history after.disk) (MayLeave (history disk))
        (λ image. MayLeave (history before.disk) image ⊎ (length image ≤ file_max))
        (λ image. MayLeave (history disk) image ⊎ (length image ≤ file_max)) (λ image left. inl left)
        (λ image left. ⊎_elim (λ now. inl (one.opened.moments.each image
        (counts_now (history disk) (history before.disk) image one.opened.moments.goes_on now)))
        (λ short. inr short) left) one.opened.moments puts.few

  -- ---- the only disk

  -- what was installed on it
  pub record Installs (outcome : FetchOutcome) (result : Result Installed XfrFault) (shows : Option MapVersion)
      (disks news : List D) : Type 0 where
    pub stores : StoresFetched job shows outcome result (only_tells history faults disks)
        (only_tells history faults news)
    pub count : length news ≡ 1

  installed_one : (disk : D) (before : StoredMap D) (afters : List (StoredMap D)) (news : List D) (old new : Published D Seen)
      (outcome : FetchOutcome) (result : Result Installed XfrFault) → BeginsLevel history faults (catalogue_of job) (disk ∷ []) old
      → old.maps ≡ before ∷ [] → IsOpened history faults disk before → new.maps ≡ afters → length afters ≡ 1
      → news ≡ map (λ (kept : StoredMap D). kept.disk) afters
      → InstallsOutcome keeping (request_of 0 job.host.0 job.force job.flag) outcome result old new
      → Installs outcome result (shown 0 old.board.known) (disk ∷ []) news
  installed_one disk before [] news old new outcome result begins olds opened news_are count disks did =
      absurd (omega (arith, count))
  installed_one disk before (after ∷ another ∷ more) news old new outcome result begins olds opened news_are count disks
      did = absurd (omega (arith, count))
  installed_one disk before (after ∷ []) news old new outcome result begins olds opened news_are count disks did =
      let log : old.board.known ≡ starts 0 (before.version ∷ []) =
      ap (λ (b : Seen). b.known) begins.board
      ∙ ap (λ (l : List (StoredMap D)). starts 0 (versions l)) olds in
      let one : One disk before after old new = record {
        olds = olds;
        news = news_are;
        own = ap (λ (c : Catalogue). c.own) begins.catalogue;
        maps = ap (λ (c : Catalogue). c.maps) begins.catalogue;
        shows = ap (λ (l : Log). shown 0 l) log ∙ shown_first before.version;
        opened = opened;
      } in
      let puts = put disk before after old new one outcome result did in
      subst (λ (l : List D). Installs outcome result (shown 0 old.board.known) (disk ∷ []) l) (sym disks) (record {
        stores = record {
          held = held_of before;
          shown = sym one.shows;
          stores = on_one disk before after old new one outcome result puts;
          few = few_on_one disk before after old new one outcome result puts;
        };
        count = refl;
      })

  -- as many maps after as before
  count_kept : (old new : Published D Seen) (outcome : FetchOutcome) (result : Result Installed XfrFault)
      → InstallsOutcome keeping (request_of 0 job.host.0 job.force job.flag) outcome result old new
      → length new.maps ≡ length old.maps
  count_kept old new (Err why) result h = ap (λ (p : Published D Seen). length p.maps) h.1
  count_kept old new (Ok version) result (inl h) = h.stays.upheld.elsewhere.count
  count_kept old new (Ok version) (Ok installed) (inr h) =
      h.offers.installs.upheld.elsewhere.count ∙ h.opens.upheld.elsewhere.count
  count_kept old new (Ok version) (Err why) (inr h) =
      h.offers.refuses.upheld.elsewhere.count ∙ h.opens.upheld.elsewhere.count

  by_maps : (disks : List D) (befores : List (StoredMap D)) (news : List D) (old new : Published D Seen) (outcome : FetchOutcome)
      (result : Result Installed XfrFault) → length disks ≡ 1
      → BeginsLevel history faults (catalogue_of job) disks old
      → old.maps ≡ befores → AllZip (IsOpened history faults) disks befores
      → news ≡ map (λ (kept : StoredMap D). kept.disk) new.maps
      → InstallsOutcome keeping (request_of 0 job.host.0 job.force job.flag) outcome result old new
      → Installs outcome result (shown 0 old.board.known) disks news
  by_maps [] befores news old new outcome result one begins olds opened disks did = absurd (omega (arith, one))
  by_maps (disk ∷ another ∷ more) befores news old new outcome result one begins olds opened disks did =
      absurd (omega (arith, one))
  by_maps (disk ∷ []) [] news old new outcome result one begins olds opened disks did = absurd opened
  by_maps (disk ∷ []) (before ∷ other ∷ more) news old new outcome result one begins olds opened disks did =
      absurd opened.1
  by_maps (disk ∷ []) (before ∷ []) news old new outcome result one begins olds opened disks did =
      installed_one disk before new.maps news old new outcome result begins olds opened.0 refl
      (count_kept old new outcome result did ∙ ap (λ (l : List (StoredMap D)). length l) olds) disks did

  pub installed_only : (disks news : List D) (old new : Published D Seen) (outcome : FetchOutcome)
      (result : Result Installed XfrFault) → length disks ≡ 1
      → BeginsLevel history faults (catalogue_of job) disks old
      → news ≡ map (λ (kept : StoredMap D). kept.disk) new.maps
      → InstallsOutcome keeping (request_of 0 job.host.0 job.force job.flag) outcome result old new
      → Installs outcome result (shown 0 old.board.known) disks news
  installed_only disks news old new outcome result one begins given did =
      by_maps disks old.maps news old new outcome result one begins refl begins.opened given did

  -- the same where nothing was fetched
  pub kept_only : (disks news : List D) (old : Published D Seen) → length disks ≡ 1
      → BeginsLevel history faults (catalogue_of job) disks old
      → news ≡ map (λ (kept : StoredMap D). kept.disk) old.maps
      → KeepsLoaded (shown 0 old.board.known) (only_history history disks) (only_history history news)
      (total_faults faults disks) (total_faults faults news) × (length news ≡ 1)
  kept_only disks news old one begins given =
      let nothing : FetchOutcome = Err fault.NoMemory in
      let installs = installed_only disks news old old nothing (Err fault.NoMemory) one begins given (refl, refl) in (
        record {
          held = installs.stores.held;
          shown = installs.stores.shown;
          is_held = installs.stores.stores.is_held;
          unwritten = installs.stores.stores.unwritten tt;
          few = installs.stores.few;
        },
        installs.count,
      )

  -- what was done to it
  pub record Did (result : Result Installed XfrFault) (from to : Dialing) (disks news : List D) : Type 0 where
    pub moves : TransfersOn job result from to (only_tells history faults disks) (only_tells history faults news)
    pub few : LeavesFew (only_history history disks) (only_history history news)
    pub count : length news ≡ 1

  did_only : (disks news : List D) (old new : Published D Seen)
      (result : Result Installed XfrFault) (from to : Dialing) → length disks ≡ 1
      → BeginsLevel history faults (catalogue_of job) disks old
      → news ≡ map (λ (kept : StoredMap D). kept.disk) new.maps
      → transfers.Transfers keeping (job.host ∷ []) (request_of 0 job.host.0 job.force job.flag) result
      (transfer_state from old) (transfer_state to new) → Did result from to disks news
  did_only disks news old new result from to one begins given did =
      let installs = installed_only disks news old new did.outcome result one begins given did.installs in
      let maps = ap (λ (c : Catalogue). c.maps) begins.catalogue in
      let named = subst (λ (names : List Name). IfSome (slice_get names 0) (λ name.
      FetchesFrom (job.host ∷ []) job.host.0
      (wanted_at keeping (request_of 0 job.host.0 job.force job.flag) name old) did.outcome from to)) maps
      did.fetches in
      let fetches = subst (λ (v : Option MapVersion). FetchesFrom (job.host ∷ []) job.host.0
      (wanted_of job.store.0 job.store.1 (option_map (λ version. version.order) v) job.force) did.outcome from to)
      (sym installs.stores.shown) named in
      record {
        moves = record {
          held = installs.stores.held;
          outcome = did.outcome;
          fetches = fetches;
          stores = installs.stores.stores;
        };
        few = installs.stores.few;
        count = installs.count;
      }

  -- the same of equal hosts and requests
  pub did_named : (disks news : List D) (old new : Published D Seen) (served : Catalogue)
      (result : Result Installed XfrFault) (from to : Dialing) (hosts : HostList) (request : TransferRequest)
      → length disks ≡ 1 → served ≡ catalogue_of job → BeginsLevel history faults served disks old
      → news ≡ map (λ (kept : StoredMap D). kept.disk) new.maps → hosts ≡ job.host ∷ []
      → request ≡ request_of 0 job.host.0 job.force job.flag
      → transfers.Transfers keeping hosts request result (transfer_state from old) (transfer_state to new)
      → Did result from to disks news
  did_named disks news old new served result from to hosts request one named begins given table is did =
      did_only disks news old new result from to one
      (subst (λ (c : Catalogue). BeginsLevel history faults c disks old) named begins) given
      (subst (λ (h : HostList). transfers.Transfers keeping h (request_of 0 job.host.0 job.force job.flag) result
      (transfer_state from old) (transfer_state to new)) table
      (subst (λ (r : TransferRequest). transfers.Transfers keeping hosts r result (transfer_state from old) (transfer_state to new))
      is did))

  -- ---- where no publisher was opened

  -- what was done to the disk then
  pub record Left (why : SlotFault) (disks news : List D) : Type 0 where
    pub moves : LeavesUnloaded why (only_history history disks) (only_history history news) (total_faults faults disks)
        (total_faults faults news)
    pub count : length news ≡ 1

  left_by : (why : SlotFault) (before after : D) → IsUnwritten history faults before after
      → IfSome (history before) (λ h. Loads (stands h.state.reads) (Err why))
      → (why ≡ slot.DiskFault → HasRisen (faults before) (faults after)) → Left why (before ∷ []) (after ∷ [])
  left_by why before after kept cause risen = record {
    moves = record {
      unloaded = record {
        cause = cause;
        disk_fault = λ e. omega (arith, risen e);
        unwritten = kept.moments;
      };
      few = leaves_more (history before) (history after) (MayLeave (history before)) _ (λ image left. inl left)
          kept.moments;
    };
    count = refl;
  }

  left_one : (fault : OpenFault) (before after : D) → IsUnwritten history faults before after
      → IsUnopened history faults fault (before ∷ []) (after ∷ []) → Left (why_of_open fault) (before ∷ []) (after ∷ [])
  left_one (opening.Refused number why) before after kept is =
      let stopped = is.1 in
      let refused = by_front history faults stopped.front stopped.opened stopped.before stopped.after stopped.rest before
      after (λ b a. DiskIsRefused history faults b a why) stopped.old_is stopped.new_is stopped.each stopped.refused in
      left_by why before after kept refused.cause refused.disk_fault
  left_one opening.NoMemory before after kept is =
      left_by slot.NoMemory before after kept (all_told (history before) _ (λ h. tt)) (λ e. absurd cc)

  pub left_only : (fault : OpenFault) (disks news : List D) → length disks ≡ 1
      → AllZip (IsUnwritten history faults) disks news → IsUnopened history faults fault disks news
      → Left (why_of_open fault) disks news
  left_only fault [] news one all is = absurd (omega (arith, one))
  left_only fault (disk ∷ another ∷ more) news one all is = absurd (omega (arith, one))
  left_only fault (disk ∷ []) [] one all is = absurd all
  left_only fault (disk ∷ []) (after ∷ other ∷ more) one all is = absurd all.1
  left_only fault (disk ∷ []) (after ∷ []) one all is = left_one fault disk after all.0 is

  -- where memory ran out before
  pub forgone_moves : (from : Dialing) (old : DiskTells) → XfrMoves job (Err (stop.Unloaded slot.NoMemory)) from from old old
  forgone_moves from old = record {
    cause = all_told old.history _ (λ h. tt);
    disk_fault = λ e. absurd cc;
    unwritten = nothing_left old.history _ (λ image left. left);
  }

  pub forgone_few : (old : Option History) → LeavesFew old old
  forgone_few old = nothing_left old _ (λ image left. inl left)
