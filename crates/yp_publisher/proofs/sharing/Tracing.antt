-- Where versions came from, and what a crash leaves of each map, from the first moment of a publisher to a later one.
use Rattle.std.proofs.Common.{◌≡◌, inl, inr, ℕ, ◌<◌, false, List, [], ◌∷◌, ◌++◌, length, map, slice_get, All, Option, None, Some, option_map, IfSome, IsSome, OnOk, IfErr, Result, Ok, Err, refl, sym, ◌∙◌, ap, subst, arith}
use Rattle.std.specs.List.{Contains}
use Rattle.std.specs.Option.{option_map_or}
use Rattle.std.proofs.lemmas.List.{length-map}
use Rattle.std.proofs.lemmas.List.Elements.{Contains-append_left}
use Rattle.std.proofs.lemmas.Option.{slice_get_cases, slice_get-map, get_or_from_slice_get}
use Rattle.yp_io.specs.Disk.{History}
use Rattle.yp_version.specs.Versions.{MapVersion}
use Rattle.yp_board.specs.Catalogues.{Catalogue}
use Rattle.yp_board.specs.Logs.{Log, shown}
use Rattle.yp_board.specs.Views.{IsFront}
use Rattle.yp_publisher.specs.declared.install.Origin.{Origin}
use Rattle.yp_publisher.specs.declared.install.Origin.TheVariants.{Built, Fetched}
use Rattle.yp_publisher.specs.declared.install.InstallFault.{InstallFault}
use Rattle.yp_publisher.specs.declared.install.InstallFault.TheVariants as fault
use Rattle.yp_publisher.specs.Standing.{MapStanding, Level, Behind, StoredMap, Published, IsStanding, OfMap, Shows, versions}
use Rattle.yp_publisher.specs.Keeping.{Keeping}
use Rattle.yp_publisher.specs.Installs.{OfferedVersion, install_refusal, not_following, IsUnopposed, Installs, Refuses}
use Rattle.yp_publisher.specs.Opens.{Opens}
use Rattle.yp_publisher.specs.Rising.{PublisherState, publisher_state}
use Rattle.yp_publisher.specs.Grown.{Making, AreMade, GrowsBy, IsShownOrMade, IsBehindMade, LeavesByFronts}
use Rattle.yp_publisher.specs.inside.Rising.{IsStart}
use Rattle.yp_publisher.proofs.Leaving.{told_before, opt_one, opt_both, same_places}
use Rattle.yp_publisher.proofs.Growing.{front_none, front_then}
use Rattle.yp_publisher.proofs.Chains.{by_fronts_then, by_fronts_so}
use Rattle.yp_publisher.proofs.Passing.{Respects, Sound, Passes, grows_none, grows_then, uncalled, passes_none, passes_then, stays_on, opens_on, offers_on}
use Rattle.yp_publisher.specs.declared.sharing.locked.ShareFault.{ShareFault}
use Rattle.yp_publisher.specs.declared.sharing.locked.ShareFault.TheVariants.{Shut, Unfit, Untold}
use Rattle.yp_publisher.specs.sharing.Failures.{disks_of}
use Rattle.yp_publisher.specs.sharing.Shares.{offer_behind}
use Rattle.yp_publisher.specs.inside.sharing.Shares.{candidate, OpensAndInstalls, IsNotInstalled}
use Rattle.yp_publisher.specs.inside.sharing.Moments.{MapsTell}
use Rattle.yp_publisher.specs.sharing.Sources.{Building}
use Rattle.yp_publisher.specs.inside.sharing.Sources.{IsBuiltThere}
use Rattle.yp_publisher.specs.sharing.Tracing.{FetchLog, IsNewBehind, Traces}
use Rattle.yp_publisher.specs.inside.sharing.Tracing.{IsBeginning, IsKnownFetched, IsTraced, IsTracedAt}
use Rattle.yp_publisher.proofs.sharing.Failing.{the_map, of_map}
use Rattle.yp_publisher.proofs.sharing.Leading.{maps_tell}
use Rattle.yp_publisher.proofs.sharing.Sourcing.{follows_shown}

-- ---- versions that are new

-- they rest on what a log shows of their map, and on fronts of the log
pub respects : (Is : Building) (fetches : FetchLog) → Respects (IsNewBehind Is fetches)
respects Is fetches number log other version front same new = elim new [
  | inl built ↦ inl (
    built.0,
    front_then built.0 log other built.1 front,
    subst (λ (last : Option MapVersion). Is built.0 number last version) same built.2,
  )
  | inr came ↦ inr (
    came.0,
    came.1,
    subst (λ (last : Option MapVersion). version ≡ record came.0 { secure = option_map_or (λ (v : MapVersion). v.secure) last false }) same came.2,
  )
]

-- they are new where more is known to be fetched
known_more : (Is : Building) (fetches more : FetchLog) → IsBeginning fetches more → (number : ℕ) (log : Log) (version : MapVersion)
    → IsNewBehind Is fetches number log version → IsNewBehind Is more number log version
known_more Is fetches more front number log version new = elim new [
  | inl built ↦ inl built
  | inr came ↦ inr (
    came.0,
    subst (λ (all : FetchLog). Contains all came.0) (sym front.1) (Contains-append_left fetches front.0 came.0 came.1),
    came.2,
  )
]

-- ---- other words for what is new

module _ (Is Other : Making) (says : (number : ℕ) (log : Log) (version : MapVersion) → Is number log version → Other number log version) where
  made_so : (log more : Log) → AreMade Is log more → AreMade Other log more
  made_so log [] made = tt
  made_so log (entry ∷ more) made = (says entry.0 log entry.1 made.0, made_so (log ++ entry ∷ []) more made.1)

  grows_so : (first last : Log) → GrowsBy Is first last → GrowsBy Other first last
  grows_so first last grows = record { more = grows.more; last_is = grows.last_is; made = made_so first grows.more grows.made }

  shown_so : (number : ℕ) (log : Log) (image : List ℕ) → IsShownOrMade Is number log image → IsShownOrMade Other number log image
  shown_so number log image is = elim is [
    | inl same ↦ inl same
    | inr new ↦ inr (new.0, says number log new.0 new.1, new.2)
  ]

  behind_so : (number : ℕ) (log : Log) (standing : MapStanding) → IsBehindMade Is number log standing → IsBehindMade Other number log standing
  behind_so number log Level made = tt
  behind_so number log (Behind version) made = says number log version made

  traced_so : {D : Type 0} (history : D → Option History) (first log : Log) (histories : List (Option History)) (maps : List (StoredMap D))
      → IsTraced history Is first log histories maps → IsTraced history Other first log histories maps
  traced_so history first log histories maps traced = record {
    begins = traced.begins;
    grown = λ told. grows_so first log (traced.grown told);
    any_moment = λ number. opt_both (slice_get histories number) (slice_get maps number)
        (λ before kept there here leaves. by_fronts_so before (history kept.disk) first log (shown_so number) leaves)
        (traced.any_moment number);
    behind = λ number. opt_one (slice_get maps number) (λ kept here made told. behind_so number log kept.standing (made told)) (traced.behind number);
  }

-- ---- from a moment to a later one

module _ {D B : Type 0} (keeping : Keeping D B) (Is : Making) (same : Respects Is) (first : Log) (histories : List (Option History)) where
  abbrev Traced : Published D B → Type 0
  Traced now = IsTraced keeping.history Is first (keeping.log now.board) histories now.maps

  sound_so : (now : Published D B) → Shows (keeping.log now.board) (versions now.maps)
      → ((number : ℕ) → OfMap number now.maps (IsStanding keeping.history)) → Traced now → Sound keeping Is same now
  sound_so now shows standing traced = record { shows = shows; standing = standing; behind = traced.behind }

  tell_before : (old new : Published D B) → Passes keeping Is same old new → MapsTell keeping.history new.maps → MapsTell keeping.history old.maps
  tell_before old new passes told number =
      opt_first (slice_get old.maps number) (slice_get new.maps number) (same_places old.maps new.maps number (sym passes.count))
      (λ before after leaves now. told_before (keeping.history before.disk) (keeping.history after.disk) leaves.goes_on now)
      (passes.moments number) (told number) where
        opt_first : {A : Type 0} {P : A → A → Type 0} {Q R : A → Type 0} (o p : Option A) → (IsSome o → IsSome p)
            → ((a b : A) → P a b → R b → Q a) → IfSome o (λ a. IfSome p (P a)) → IfSome p R → IfSome o Q
        opt_first None p some f h k = tt
        opt_first {A} (Some a) None some f h k = let no : IsSome {T = A} None = some refl in absurd (cc)
        opt_first (Some a) (Some b) some f h k = f a b h k

  traced_then : (old new : Published D B) → Traced old → Passes keeping Is same old new → Sound keeping Is same new → Traced new
  traced_then old new traced passes sound = record {
    begins = front_then first (keeping.log old.board) (keeping.log new.board) traced.begins passes.grown;
    grown = λ told.
        let before = tell_before old new passes told in
        grows_then Is first (keeping.log old.board) (keeping.log new.board) (traced.grown before) (passes.entries before);
    any_moment = λ number. opt_later (slice_get histories number) (slice_get old.maps number) (slice_get new.maps number)
        (same_places new.maps old.maps number passes.count)
        (λ before between after f s. by_fronts_then before (keeping.history between.disk) (keeping.history after.disk)
        first (keeping.log old.board) (keeping.log new.board) f s)
        (traced.any_moment number) (passes.moments number);
    behind = sound.behind;
  } where
    opt_later : {A C : Type 0} {P : A → C → Type 0} {Q : C → C → Type 0} {R : A → C → Type 0} (o : Option A) (p q : Option C)
        → (IsSome q → IsSome p) → ((a : A) (b c : C) → P a b → Q b c → R a c)
        → IfSome o (λ a. IfSome p (P a)) → IfSome p (λ b. IfSome q (Q b)) → IfSome o (λ a. IfSome q (R a))
    opt_later None p q some f h k = tt
    opt_later (Some a) p None some f h k = tt
    opt_later {A} {C} (Some a) None (Some c) some f h k = let no : IsSome {T = C} None = some refl in absurd (cc)
    opt_later (Some a) (Some b) (Some c) some f h k = f a b c h k

-- ---- the calls under the lock

module _ {D B : Type 0} (keeping : Keeping D B) (Is : Building) (fetches : FetchLog) (number : ℕ) (version : MapVersion) (own : List ℕ) where
  abbrev Now : Published D B → Type 0
  Now now = Sound keeping (IsNewBehind Is fetches) (respects Is fetches) now

  abbrev Goes : Published D B → Published D B → Type 0
  Goes old new = Now new × Passes keeping (IsNewBehind Is fetches) (respects Is fetches) old new

  -- what is offered of a level map
  module _ (old new : Published D B) (within : number < length old.maps) (sound : Now old)
      (level : OfMap number old.maps (λ m. m.standing ≡ Level)) where
    unchanged : new ≡ old → Goes old new
    unchanged same = subst (λ (p : Published D B). Goes old p) (sym same)
        (sound, passes_none keeping (IsNewBehind Is fetches) (respects Is fetches) old sound)

    module _ (origin : Origin) where
      abbrev offered : OfferedVersion
      offered = offer_behind number version origin (keeping.log old.board)

      installed_new : IsNewBehind Is fetches number (keeping.log old.board) offered.version → Installs keeping number offered old new
          → Goes old new
      installed_new is installs =
          offers_on keeping (IsNewBehind Is fetches) (respects Is fetches) number offered.version old new within sound level is
          installs.upheld installs.meanwhile (installs.rising refl)

      changed_new : (why : InstallFault) → IsNewBehind Is fetches number (keeping.log old.board) offered.version
          → Refuses keeping number offered why old new → Goes old new
      changed_new why is refuses =
          offers_on keeping (IsNewBehind Is fetches) (respects Is fetches) number offered.version old new within sound level is
          refuses.upheld refuses.meanwhile (refuses.rising refl)

      refused_new : (why : InstallFault) → (IsUnopposed number offered old → IsNewBehind Is fetches number (keeping.log old.board) offered.version)
          → Refuses keeping number offered why old new → Goes old new
      refused_new fault.Behind is refuses = unchanged refuses.left
      refused_new (fault.Refused master) is refuses = unchanged refuses.left
      refused_new (fault.Age last order) is refuses = unchanged refuses.left
      refused_new fault.GenerationsSpent is refuses = unchanged refuses.left
      refused_new fault.DiskFault is refuses = changed_new fault.DiskFault (is refuses.cause) refuses
      refused_new fault.NoMemory is refuses = elim refuses.left [
        | inl same ↦ unchanged same
        | inr fails ↦ changed_new fault.NoMemory (is fails.unopposed) refuses
      ]

  -- it is new behind what is shown then
  new_there : (origin : Origin) (known : Option FetchLog) (old middle : Published D B) → number < length middle.maps
      → OfMap number middle.maps (λ m. m.standing ≡ Level) → Shows (keeping.log middle.board) (versions middle.maps)
      → middle.catalogue.own ≡ own → IsFront (keeping.log old.board) (keeping.log middle.board)
      → IsBuiltThere Is (keeping.log old.board) number own version origin → IsKnownFetched version origin known
      → IfSome known (λ front. IsBeginning front fetches)
      → IsUnopposed number (offer_behind number version origin (keeping.log middle.board)) middle
      → IsNewBehind Is fetches number (keeping.log middle.board)
      (offer_behind number version origin (keeping.log middle.board)).version
  new_there Built known old middle within level shows own_is front built is learned unopposed =
      let offered = offer_behind number version Built (keeping.log middle.board) in
      let kept = the_map middle.maps number within in
      let last = shown number (keeping.log middle.board) in
      let none = of_map (λ k. install_refusal middle.catalogue.own offered k ≡ None) number middle.maps kept.0 kept.1 unopposed in
      let stands = of_map (λ m. m.standing ≡ Level) number middle.maps kept.0 kept.1 level in
      inl (
        built.0,
        front_then built.0 (keeping.log old.board) (keeping.log middle.board) built.1 front,
        built.2 last (subst (λ (name : List ℕ). not_following name offered last ≡ None) own_is
            (follows_shown keeping number offered middle kept.0 kept.1 stands shows none)),
      )
  new_there Fetched None old middle within level shows own_is front built is learned unopposed = absurd is
  new_there Fetched (Some known) old middle within level shows own_is front built is learned unopposed =
      inr (
        version,
        subst (λ (all : FetchLog). Contains all version) (sym learned.1) (Contains-append_left known learned.0 version is),
        refl,
      )

  module _ (origin : Origin) (known : Option FetchLog) (old new : Published D B) (within : number < length old.maps) (sound : Now old)
      (own_is : old.catalogue.own ≡ own) (built : IsBuiltThere Is (keeping.log old.board) number own version origin)
      (is : IsKnownFetched version origin known) (learned : IfSome known (λ front. IsBeginning front fetches)) where
    module _ (middle : Published D B) (opens : Opens keeping number old middle) where
      within_middle : number < length middle.maps
      within_middle = let count = opens.upheld.elsewhere.count in omega (arith, within, count)

      goes_middle : Goes old middle
      goes_middle = opens_on keeping (IsNewBehind Is fetches) (respects Is fetches) number old middle within sound opens

      new_middle : IsUnopposed number (offer_behind number version origin (keeping.log middle.board)) middle
          → IsNewBehind Is fetches number (keeping.log middle.board)
          (offer_behind number version origin (keeping.log middle.board)).version
      new_middle =
          new_there origin known old middle within_middle opens.level opens.upheld.shows
          (ap (λ (c : Catalogue). c.own) opens.upheld.catalogue ∙ own_is) goes_middle.1.grown built is learned

      then_new : Goes middle new → Goes old new
      then_new goes = (
        goes.0,
        passes_then keeping (IsNewBehind Is fetches) (respects Is fetches) old middle new goes_middle.1 goes.1,
      )

    goes_installed : OpensAndInstalls keeping (candidate number version origin) old new → Goes old new
    goes_installed one =
        then_new one.middle one.opens
        (installed_new one.middle new (within_middle one.middle one.opens) (goes_middle one.middle one.opens).0 one.opens.level origin
        (new_middle one.middle one.opens one.installs.unopposed) one.installs)

    goes_refused : (why : ShareFault) → IsNotInstalled keeping (candidate number version origin) why old new → Goes old new
    goes_refused (Shut why) one = stays_on keeping (IsNewBehind Is fetches) (respects Is fetches) number why old new sound one
    goes_refused (Unfit why) one =
        then_new one.middle one.opens
        (refused_new one.middle new (within_middle one.middle one.opens) (goes_middle one.middle one.opens).0 one.opens.level origin why
        (new_middle one.middle one.opens) one.refuses)
    goes_refused Untold one = absurd one

    goes : {T : Type 0} (r : Result T ShareFault) → OnOk r (OpensAndInstalls keeping (candidate number version origin) old new)
        → IfErr r (λ why. IsNotInstalled keeping (candidate number version origin) why old new) → Goes old new
    goes (Ok done) one none = goes_installed one
    goes (Err why) none one = goes_refused why one

-- behind an install or a refusal
pub traced_after : {T D B : Type 0} (keeping : Keeping D B) (Is : Building) (before fetches : FetchLog) (first : PublisherState)
    (histories : List (Option History)) (number : ℕ) (version : MapVersion) (origin : Origin) (own : List ℕ) (known : Option FetchLog)
    (old new : Published D B) (r : Result T ShareFault) → number < length old.maps
    → Shows (keeping.log old.board) (versions old.maps) → ((number : ℕ) → OfMap number old.maps (IsStanding keeping.history))
    → old.catalogue.own ≡ own
    → IsBuiltThere Is (keeping.log old.board) number own version origin → IsKnownFetched version origin known
    → IsBeginning before fetches → IfSome known (λ front. IsBeginning front fetches)
    → OnOk r (OpensAndInstalls keeping (candidate number version origin) old new)
    → IfErr r (λ why. IsNotInstalled keeping (candidate number version origin) why old new)
    → IsTracedAt keeping Is before first histories old → IsTracedAt keeping Is fetches first histories new
traced_after keeping Is before fetches first histories number version origin own known old new r within shows standing own_is built is
    more learned one none traced = λ start.
    let was = traced_so (IsNewBehind Is before) (IsNewBehind Is fetches) (known_more Is before fetches more) keeping.history first.log
    (keeping.log old.board) histories old.maps (traced start) in
    let sound = sound_so keeping (IsNewBehind Is fetches) (respects Is fetches) first.log histories old shows standing was in
    let went = goes keeping Is fetches number version own origin known old new within sound own_is built is learned r one none in
    traced_then keeping (IsNewBehind Is fetches) (respects Is fetches) first.log histories old new was went.1 went.0

-- ---- before the first one, and at the last one

opt_none : {A C : Type 0} (P : A → C → Type 0) (o : Option A) (p : Option C) → p ≡ None → IfSome o (λ a. IfSome p (P a))
opt_none P None p none = tt
opt_none P (Some a) None none = tt
opt_none P (Some a) (Some c) none = absurd cc

module _ {D B : Type 0} (keeping : Keeping D B) (Is : Building) (fetches : FetchLog) (published : Published D B) where
  level_at : All (λ standing. standing ≡ Level) (map (λ (k : StoredMap D). k.standing) published.maps) → (number : ℕ)
      → OfMap number published.maps (λ kept. IsSome (keeping.history kept.disk)
      → IsBehindMade (IsNewBehind Is fetches) number (keeping.log published.board) kept.standing)
  level_at level number = elim (slice_get_cases published.maps number).1 [
    | inl here ↦
        let kept = here.0 in
        let there : slice_get (map (λ (k : StoredMap D). k.standing) published.maps) number ≡ Some kept.standing =
        slice_get-map (λ (k : StoredMap D). k.standing) published.maps number ∙ ap (option_map (λ (k : StoredMap D). k.standing)) here.2 in
        let long = length-map published.maps (λ (k : StoredMap D). k.standing) in
        let inside : number < length published.maps = here.1 in
        let stands : kept.standing ≡ Level = subst (λ (s : MapStanding). s ≡ Level)
        (get_or_from_slice_get (map (λ (k : StoredMap D). k.standing) published.maps) number kept.standing kept.standing there)
        (level number kept.standing (omega (arith, long, inside))) in
        subst (λ (o : Option (StoredMap D)). IfSome o (λ kept. IsSome (keeping.history kept.disk)
        → IsBehindMade (IsNewBehind Is fetches) number (keeping.log published.board) kept.standing)) (sym here.2)
        (λ told. subst (λ (s : MapStanding). IsBehindMade (IsNewBehind Is fetches) number (keeping.log published.board) s) (sym stands) tt)
    | inr past ↦ subst (λ (o : Option (StoredMap D)). IfSome o (λ kept. IsSome (keeping.history kept.disk)
        → IsBehindMade (IsNewBehind Is fetches) number (keeping.log published.board) kept.standing)) (sym past.1) tt
  ]

  -- where a disk stands at that moment
  abbrev Stays : ℕ → Option History → StoredMap D → Type 0
  Stays number before kept =
      LeavesByFronts (IsShownOrMade (IsNewBehind Is fetches) number) before (keeping.history kept.disk)
      (keeping.log published.board) (keeping.log published.board)

  untouched : Sound keeping (IsNewBehind Is fetches) (respects Is fetches) published → (number : ℕ)
      → IfSome (slice_get (map keeping.history (disks_of published.maps)) number) (λ before. OfMap number published.maps (Stays number before))
  untouched sound number = elim (slice_get_cases published.maps number).1 [
    | inl here ↦
        let kept = here.0 in
        let log = keeping.log published.board in
        let disk : slice_get (disks_of published.maps) number ≡ Some kept.disk =
        slice_get-map (λ (k : StoredMap D). k.disk) published.maps number ∙ ap (option_map (λ (k : StoredMap D). k.disk)) here.2 in
        let told : slice_get (map keeping.history (disks_of published.maps)) number ≡ Some (keeping.history kept.disk) =
        slice_get-map keeping.history (disks_of published.maps) number ∙ ap (option_map keeping.history) disk in
        subst (λ (o : Option (Option History)). IfSome o (λ before. OfMap number published.maps (Stays number before))) (sym told)
        (subst (λ (o : Option (StoredMap D)). IfSome o (Stays number (keeping.history kept.disk))) (sym here.2)
        (uncalled keeping (IsNewBehind Is fetches) (respects Is fetches) published sound number log (front_none log log refl) kept here.2))
    | inr past ↦ opt_none _ (slice_get (map keeping.history (disks_of published.maps)) number) (slice_get published.maps number) past.1
  ]

-- disks that told this and that nothing was done with
pub traced_at_first : {D B : Type 0} (keeping : Keeping D B) (Is : Building) (fetches : FetchLog) (first : PublisherState)
    (histories : List (Option History)) (published : Published D B) → Shows (keeping.log published.board) (versions published.maps)
    → ((number : ℕ) → OfMap number published.maps (IsStanding keeping.history)) → publisher_state keeping.log published ≡ first
    → map keeping.history (disks_of published.maps) ≡ histories → IsTracedAt keeping Is fetches first histories published
traced_at_first {D} {B} keeping Is fetches first histories published shows standing is told = λ start.
    let log = keeping.log published.board in
    let level = subst (λ (m : PublisherState). All (λ standing. standing ≡ Level) m.standings) (sym is) start.level in
    let behind = level_at keeping Is fetches published level in
    subst (λ (all : List (Option History)). IsTraced keeping.history (IsNewBehind Is fetches) first.log log all published.maps) told
    (subst (λ (m : PublisherState). IsTraced keeping.history (IsNewBehind Is fetches) m.log log (map keeping.history (disks_of published.maps)) published.maps) is
    (record {
      begins = front_none log log refl;
      grown = λ all. grows_none (IsNewBehind Is fetches) log log refl;
      any_moment = untouched keeping Is fetches published (record { shows = shows; standing = standing; behind = behind });
      behind = behind;
    }))

-- the same where all disks tell it
pub traced_at_last : {D B : Type 0} (keeping : Keeping D B) (Is : Building) (fetches : FetchLog) (first : PublisherState)
    (histories : List (Option History)) (published : Published D B) → IsTracedAt keeping Is fetches first histories published
    → IsStart first
    → Traces keeping.history (IsNewBehind Is fetches) first.log (keeping.log published.board) histories published.maps
traced_at_last keeping Is fetches first histories published traced start =
    let is = traced start in record {
      grown = λ told. is.grown (maps_tell keeping.history published.maps told);
      any_moment = is.any_moment;
      behind = is.behind;
    }
