-- How published maps pass from one moment to a later one, and what each step of an install keeps.
use Rattle.std.proofs.Common.{◌≡◌, ◌⊎◌, inl, inr, ℕ, ◌<◌, ◌≤◌, List, [], ◌∷◌, ◌++◌, map, length, slice_get, slice_set, Option, Some, None, IfSome, IsSome, option_map, refl, sym, ◌∙◌, ap, subst, arith, append_assoc}
use Rattle.std.proofs.lemmas.List.{append-nil, length-set, length-map, get_or-set_same}
use Rattle.std.proofs.lemmas.Option.{slice_get_cases, slice_get_read, slice_get-map, get_or_from_slice_get, same_Some}
use Rattle.std.proofs.lemmas.Bool.{cases_eq}
use Rattle.yp_io.specs.Disk.{LeavesOnly}
use Rattle.yp_map_file.specs.declared.fault.SlotFault.{SlotFault}
use Rattle.yp_version.specs.Versions.{MapVersion}
use Rattle.yp_map_file.specs.Stands.{file_max}
use Rattle.yp_board.specs.Logs.{Log, shown}
use Rattle.yp_board.specs.Views.{IsFront}
use Rattle.yp_publisher.specs.Standing.{MapStanding, Level, Behind, StoredMap, Published, StandsAs, IsStanding, OfMap, At, IsSameElsewhere, Shows, stands_for, versions}
use Rattle.yp_publisher.specs.Opens.{IsAnother, StandsMeanwhile, Opens, IsStillBehind, StaysBehind}
use Rattle.yp_publisher.specs.Rising as rising
use Rattle.yp_publisher.specs.inside.Rising.{Steps}
use Rattle.yp_publisher.specs.Rising.{with_shown, Reopens, InstallsNewer}
use Rattle.yp_publisher.specs.Keeping.{Keeping, Upholds}
use Rattle.yp_publisher.specs.Installs.{LeavesEither}
use Rattle.yp_publisher.specs.Grown.{Making, AreMade, GrowsBy, IsShownOrMade, IsBehindMade, LeavesByFronts, LeavesOr}
use Rattle.yp_publisher.proofs.Leading.{Leads, leads_one, leads_none, leads_then, stand_same}
use Rattle.yp_publisher.proofs.Growing.{front_none, front_then, front_same, front_more, at_one}
use Rattle.yp_publisher.proofs.Chains.{by_one_log, by_one_alone, by_fronts_then}
use Rattle.yp_publisher.proofs.Leaving.{weaker, left_alone, both_leave_or, told_on, told_before, opt_one, opt_both, opt_same, opt_then, opt_second, opt_at, opt_at_both, same_places}

-- ---- logs

-- what is made behind a log rests on what the log shows of its map, and on fronts of the log
abbrev pub Respects : Making → Type 0
Respects Is = (number : ℕ) (log other : Log) (version : MapVersion) → IsFront log other → shown number log ≡ shown number other → Is number log version → Is number other version

made_then : (Is : Making) (log more last : Log) → AreMade Is log more → AreMade Is (log ++ more) last → AreMade Is log (more ++ last)
made_then Is log [] last first second = subst (λ (l : Log). AreMade Is l last) (append-nil log) second
made_then Is log (entry ∷ more) last first second =
    (first.0, made_then Is (log ++ entry ∷ []) more last first.1 (subst (λ (l : Log). AreMade Is l last) (sym (append_assoc log (entry ∷ []) more)) second))

pub grows_none : (Is : Making) (first last : Log) → last ≡ first → GrowsBy Is first last
grows_none Is first last e = record { more = []; last_is = e ∙ sym (append-nil first); made = tt }

grows_one : (Is : Making) (number : ℕ) (version : MapVersion) (first last : Log) → Is number first version → last ≡ with_shown number version first → GrowsBy Is first last
grows_one Is number version first last is e = record { more = (number, version) ∷ []; last_is = e; made = (is, tt) }

pub grows_then : (Is : Making) (a b c : Log) → GrowsBy Is a b → GrowsBy Is b c → GrowsBy Is a c
grows_then Is a b c first second = record {
  more = first.more ++ second.more;
  last_is = second.last_is ∙ ap (λ (l : Log). l ++ second.more) first.last_is ∙ append_assoc a first.more second.more;
  made = made_then Is a first.more second.more first.made (subst (λ (l : Log). AreMade Is l second.more) first.last_is second.made);
}

-- ---- how a map stands

behind_again : (Is : Making) → Respects Is → (standing : MapStanding) (number : ℕ) (log other : Log) → IsFront log other → shown number log ≡ shown number other
    → IsBehindMade Is number log standing → IsBehindMade Is number other standing
behind_again Is same Level number log other front e made = tt
behind_again Is same (Behind version) number log other front e made = same number log other version front e made

-- bytes that stand as a map stands
stands_so : (Is : Making) (standing : MapStanding) (number : ℕ) (log : Log) (version : Option MapVersion) → shown number log ≡ version
    → IsBehindMade Is number log standing → (image : List ℕ) → StandsAs standing version image → IsShownOrMade Is number log image
stands_so Is Level number log version e made image stood = inl (stood ∙ ap stands_for (sym e))
stands_so Is (Behind failed) number log version e made image stood =
    elim stood [ inl is ↦ inl (is ∙ ap stands_for (sym e)) | inr is ↦ inr (failed, made, is) ]

module _ {D : Type 0} where
  -- the version that is kept of a map is the one that is shown
  shown_is : (log : Log) (maps : List (StoredMap D)) (number : ℕ) (kept : StoredMap D) → Shows log (versions maps) → slice_get maps number ≡ Some kept → shown number log ≡ kept.version
  shown_is log maps number kept shows there =
      let here : slice_get (versions maps) number ≡ Some kept.version =
      slice_get-map (λ (k : StoredMap D). k.version) maps number ∙ ap (option_map (λ (k : StoredMap D). k.version)) there in
      shows number ∙ get_or_from_slice_get (versions maps) number kept.version None here

  standing_there : (maps : List (StoredMap D)) (number : ℕ) (kept : StoredMap D) → slice_get maps number ≡ Some kept → slice_get (map (λ (k : StoredMap D). k.standing) maps) number ≡ Some kept.standing
  standing_there maps number kept there =
      slice_get-map (λ (k : StoredMap D). k.standing) maps number ∙ ap (option_map (λ (k : StoredMap D). k.standing)) there

  -- a fact of a map that was changed, and of all others, which are the same
  everywhere : (R : ℕ → StoredMap D → StoredMap D → Type 0) (number : ℕ) (old new : List (StoredMap D)) → IsSameElsewhere number old new
      → ((other : ℕ) (kept : StoredMap D) → slice_get old other ≡ Some kept → R other kept kept) → At number old new (R number)
      → (other : ℕ) → At other old new (R other)
  everywhere R number old new elsewhere same at other = elim (cases_eq other number) [
    | inl e ↦ subst (λ (n : ℕ). At n old new (R n)) (sym e) at
    | inr ne ↦ opt_same (R other) (slice_get old other) (slice_get new other) (elsewhere.others other ne) (same other)
  ]

  the_map : (maps : List (StoredMap D)) (number : ℕ) → number < length maps → (kept : StoredMap D) × (slice_get maps number ≡ Some kept)
  the_map maps number within = elim (slice_get_cases maps number).1 [
    | inl here ↦ (here.0, here.2)
    | inr past ↦ let le : length maps ≤ number = past.0 in absurd (omega arith)
  ]

put_there : (l : List MapStanding) (number : ℕ) (standing : MapStanding) → number < length l → slice_get (slice_set l number standing) number ≡ Some standing
put_there l number standing within =
    let long : length (slice_set l number standing) ≡ length l = length-set l number standing in
    slice_get_read (slice_set l number standing) (length l) number standing (sym long) within (sym (get_or-set_same l number standing standing within))

-- ---- from one moment to another

module _ {D B : Type 0} (keeping : Keeping D B) (Is : Making) (same : Respects Is) where
  abbrev Told : StoredMap D → Type 0
  Told kept = IsSome (keeping.history kept.disk)

  -- at each moment a crash leaves of a map what a front of the log shows, or what was made behind it
  abbrev pub Turns : ℕ → Log → Log → StoredMap D → StoredMap D → Type 0
  Turns number first last before after =
      LeavesByFronts (IsShownOrMade Is number) (keeping.history before.disk) (keeping.history after.disk) first last

  -- what holds at each moment: what is kept of each map is shown, its file stands as the map stands, and a map that is behind is
  -- behind a version that was made
  pub record Sound (now : Published D B) : Type 0 where
    pub shows : Shows (keeping.log now.board) (versions now.maps)
    pub standing : (number : ℕ) → OfMap number now.maps (IsStanding keeping.history)
    pub behind : (number : ℕ) → OfMap number now.maps (λ kept. IsSome (keeping.history kept.disk) → IsBehindMade Is number (keeping.log now.board) kept.standing)

  -- what holds of two moments
  pub record Passes (old new : Published D B) : Type 0 where
    pub catalogue : new.catalogue ≡ old.catalogue
    pub count : length new.maps ≡ length old.maps
    pub grown : IsFront (keeping.log old.board) (keeping.log new.board)
    pub moments : (number : ℕ) → At number old.maps new.maps (Turns number (keeping.log old.board) (keeping.log new.board))
    pub bound : (number : ℕ) → At number old.maps new.maps (λ before after. LeavesOr keeping.history (λ image. length image ≤ file_max) before.disk after.disk)
    pub never_falls : (number : ℕ) → At number old.maps new.maps (λ before after. keeping.faults before.disk ≤ keeping.faults after.disk)
    pub entries : ((number : ℕ) → OfMap number old.maps (λ kept. IsSome (keeping.history kept.disk))) → GrowsBy Is (keeping.log old.board) (keeping.log new.board)
    pub leads : ((number : ℕ) → OfMap number old.maps (λ kept. IsSome (keeping.history kept.disk))) → Leads (rising.publisher_state keeping.log old) (rising.publisher_state keeping.log new)

  still : {P : List ℕ → Type 0} (kept : StoredMap D) → LeavesOr keeping.history P kept.disk kept.disk
  still kept = left_alone (keeping.history kept.disk) (λ image left. inl left)

  -- a map that isn't called, up to a longer log
  pub uncalled : (now : Published D B) → Sound now → (number : ℕ) (last : Log) → IsFront (keeping.log now.board) last → (kept : StoredMap D)
      → slice_get now.maps number ≡ Some kept → Turns number (keeping.log now.board) last kept kept
  uncalled now sound number last front kept there =
      by_one_alone {P = IsShownOrMade Is number} (keeping.history kept.disk) (keeping.log now.board) last front
      (λ told image left. stands_so Is kept.standing number (keeping.log now.board) kept.version
      (shown_is (keeping.log now.board) now.maps number kept sound.shows there)
      (opt_at (λ (k : StoredMap D). IsSome (keeping.history k.disk) → IsBehindMade Is number (keeping.log now.board) k.standing)
      (slice_get now.maps number) kept there (sound.behind number) told)
      image (opt_at (IsStanding keeping.history) (slice_get now.maps number) kept there (sound.standing number) image left))

  pub passes_none : (now : Published D B) → Sound now → Passes now now
  passes_none now sound = record {
    catalogue = refl;
    count = refl;
    grown = front_none (keeping.log now.board) (keeping.log now.board) refl;
    moments = λ number. opt_same (Turns number (keeping.log now.board) (keeping.log now.board)) (slice_get now.maps number) (slice_get now.maps number) refl
        (uncalled now sound number (keeping.log now.board) (front_none (keeping.log now.board) (keeping.log now.board) refl));
    bound = λ number. opt_same (λ before after. LeavesOr keeping.history (λ image. length image ≤ file_max) before.disk after.disk) (slice_get now.maps number) (slice_get now.maps number) refl (λ kept there. still kept);
    never_falls = λ number. opt_same (λ before after. keeping.faults before.disk ≤ keeping.faults after.disk) (slice_get now.maps number) (slice_get now.maps number) refl (λ kept there. omega arith);
    entries = λ told. grows_none Is (keeping.log now.board) (keeping.log now.board) refl;
    leads = λ told. leads_none (rising.publisher_state keeping.log now) (rising.publisher_state keeping.log now) refl;
  }

  told_then : (old new : Published D B) → Passes old new → ((number : ℕ) → OfMap number old.maps (λ kept. IsSome (keeping.history kept.disk)))
      → (number : ℕ) → OfMap number new.maps (λ kept. IsSome (keeping.history kept.disk))
  told_then old new passes told number =
      opt_second (slice_get old.maps number) (slice_get new.maps number) (same_places new.maps old.maps number passes.count)
      (λ before after there here leaves. told_on (keeping.history before.disk) (keeping.history after.disk) leaves.goes_on (opt_at Told (slice_get old.maps number) before there (told number)))
      (passes.moments number)

  pub passes_then : (old middle new : Published D B) → Passes old middle → Passes middle new → Passes old new
  passes_then old middle new first second = record {
    catalogue = second.catalogue ∙ first.catalogue;
    count = second.count ∙ first.count;
    grown = front_then (keeping.log old.board) (keeping.log middle.board) (keeping.log new.board) first.grown second.grown;
    moments = λ number. opt_then (slice_get old.maps number) (slice_get middle.maps number) (slice_get new.maps number) (same_places old.maps middle.maps number (sym first.count))
        (λ before between after f s. by_fronts_then (keeping.history before.disk) (keeping.history between.disk) (keeping.history after.disk)
        (keeping.log old.board) (keeping.log middle.board) (keeping.log new.board) f s)
        (first.moments number) (second.moments number);
    bound = λ number. opt_then (slice_get old.maps number) (slice_get middle.maps number) (slice_get new.maps number) (same_places old.maps middle.maps number (sym first.count))
        (λ before between after f s. both_leave_or (keeping.history before.disk) (keeping.history between.disk) (keeping.history after.disk) f s)
        (first.bound number) (second.bound number);
    never_falls = λ number. opt_then (slice_get old.maps number) (slice_get middle.maps number) (slice_get new.maps number) (same_places old.maps middle.maps number (sym first.count))
        (λ before between after f s. omega arith)
        (first.never_falls number) (second.never_falls number);
    entries = λ told. grows_then Is (keeping.log old.board) (keeping.log middle.board) (keeping.log new.board) (first.entries told) (second.entries (told_then old middle first told));
    leads = λ told. leads_then (rising.publisher_state keeping.log old) (rising.publisher_state keeping.log middle) (rising.publisher_state keeping.log new) (first.leads told) (second.leads (told_then old middle first told));
  }

  -- ---- one step

  -- what a crash leaves at the moments of a step, of bytes that stand as the map stood, or so
  meanwhile : {P : List ℕ → Type 0} (number : ℕ) (old new : Published D B) → Sound old → IsFront (keeping.log old.board) (keeping.log new.board)
      → ((image : List ℕ) → P image → IsShownOrMade Is number (keeping.log old.board) image)
      → At number old.maps new.maps (λ before after. LeavesOnly (keeping.history before.disk) (keeping.history after.disk) (λ image. StandsAs before.standing before.version image ⊎ P image))
      → At number old.maps new.maps (Turns number (keeping.log old.board) (keeping.log new.board))
  meanwhile number old new sound front other leaves =
      opt_both (slice_get old.maps number) (slice_get new.maps number)
      (λ before after there here l. by_one_log (keeping.history before.disk) (keeping.history after.disk) (keeping.log old.board) (keeping.log new.board) front
      (weaker (keeping.history before.disk) (keeping.history after.disk)
      (λ told image stood. elim stood [
        | inl same ↦ stands_so Is before.standing number (keeping.log old.board) before.version
            (shown_is (keeping.log old.board) old.maps number before sound.shows there)
            (opt_at (λ (kept : StoredMap D). IsSome (keeping.history kept.disk) → IsBehindMade Is number (keeping.log old.board) kept.standing) (slice_get old.maps number) before there (sound.behind number) told)
            image same
        | inr so ↦ other image so
      ]) l))
      leaves

  -- the same of a step in which the map stands as it stood
  stands_meanwhile : (number : ℕ) (old new : Published D B) → Sound old → IsFront (keeping.log old.board) (keeping.log new.board)
      → At number old.maps new.maps (StandsMeanwhile keeping.history)
      → At number old.maps new.maps (Turns number (keeping.log old.board) (keeping.log new.board))
  stands_meanwhile number old new sound front leaves =
      meanwhile {P = λ image. ⊥} number old new sound front (λ image no. absurd no)
      (opt_both {P = StandsMeanwhile keeping.history} (slice_get old.maps number) (slice_get new.maps number)
      (λ before after there here l. weaker (keeping.history before.disk) (keeping.history after.disk) (λ told image stood. inl stood) l.stands) leaves)

  step_passes : (number : ℕ) (old new : Published D B) → Sound old → Upholds keeping number old new → IsFront (keeping.log old.board) (keeping.log new.board)
      → At number old.maps new.maps (Turns number (keeping.log old.board) (keeping.log new.board))
      → (OfMap number old.maps (λ kept. IsSome (keeping.history kept.disk)) → GrowsBy Is (keeping.log old.board) (keeping.log new.board))
      → (OfMap number old.maps (λ kept. IsSome (keeping.history kept.disk)) → Steps (rising.publisher_state keeping.log old) (rising.publisher_state keeping.log new)) → Passes old new
  step_passes number old new sound keeps front moments entries steps = record {
    catalogue = keeps.catalogue;
    count = keeps.elsewhere.count;
    grown = front;
    moments = everywhere (λ other. Turns other (keeping.log old.board) (keeping.log new.board))
        number old.maps new.maps keeps.elsewhere (λ other. uncalled old sound other (keeping.log new.board) front) moments;
    bound = everywhere (λ other before after. LeavesOr keeping.history (λ image. length image ≤ file_max) before.disk after.disk)
        number old.maps new.maps keeps.elsewhere (λ other kept there. still kept)
        (opt_both (slice_get old.maps number) (slice_get new.maps number)
        (λ before after there here l. weaker (keeping.history before.disk) (keeping.history after.disk) (λ told image few. inr few) l) keeps.bound);
    never_falls = everywhere (λ other before after. keeping.faults before.disk ≤ keeping.faults after.disk)
        number old.maps new.maps keeps.elsewhere (λ other kept there. omega arith) keeps.never_falls;
    entries = λ told. entries (told number);
    leads = λ told. leads_one (rising.publisher_state keeping.log old) (rising.publisher_state keeping.log new) (steps (told number));
  }

  step_sound : (number : ℕ) (old new : Published D B) → IsFront (keeping.log old.board) (keeping.log new.board) → Sound old → Upholds keeping number old new
      → OfMap number new.maps (λ kept. IsSome (keeping.history kept.disk) → IsBehindMade Is number (keeping.log new.board) kept.standing) → Sound new
  step_sound number old new front sound keeps at = record {
    shows = keeps.shows;
    standing = λ other. elim (cases_eq other number) [
      | inl e ↦ subst (λ (n : ℕ). OfMap n new.maps (IsStanding keeping.history)) (sym e) keeps.standing
      | inr ne ↦ subst (λ (o : Option (StoredMap D)). IfSome o (IsStanding keeping.history)) (sym (keeps.elsewhere.others other ne)) (sound.standing other)
    ];
    behind = λ other. elim (cases_eq other number) [
      | inl e ↦ subst (λ (n : ℕ). OfMap n new.maps (λ kept. IsSome (keeping.history kept.disk) → IsBehindMade Is n (keeping.log new.board) kept.standing)) (sym e) at
      | inr ne ↦ kept_elsewhere other (keeps.elsewhere.others other ne)
    ];
  } where
    kept_elsewhere : (other : ℕ) → slice_get new.maps other ≡ slice_get old.maps other
        → OfMap other new.maps (λ kept. IsSome (keeping.history kept.disk) → IsBehindMade Is other (keeping.log new.board) kept.standing)
    kept_elsewhere other e =
        subst (λ (o : Option (StoredMap D)). IfSome o (λ kept. IsSome (keeping.history kept.disk) → IsBehindMade Is other (keeping.log new.board) kept.standing)) (sym e)
        (opt_one (slice_get old.maps other)
        (λ kept there made told. behind_again Is same kept.standing other (keeping.log old.board) (keeping.log new.board) front
        (shown_is (keeping.log old.board) old.maps other kept sound.shows there ∙ sym (shown_is (keeping.log new.board) new.maps other kept keeps.shows (e ∙ there)))
        (made told))
        (sound.behind other))

  -- a map that isn't opened
  pub stays_on : (number : ℕ) (fault : SlotFault) (old new : Published D B) → Sound old → StaysBehind keeping number fault old new → Sound new × Passes old new
  stays_on number fault old new sound step =
      let same_log : keeping.log new.board ≡ keeping.log old.board = ap keeping.log step.not_shown in
      let front : IsFront (keeping.log old.board) (keeping.log new.board) = front_none (keeping.log old.board) (keeping.log new.board) same_log in (
        step_sound number old new front sound step.upheld
            (opt_second (slice_get old.maps number) (slice_get new.maps number) (same_places new.maps old.maps number step.upheld.elsewhere.count)
            (λ before after there here is told. still_behind before after there here is told)
            step.still),
        step_passes number old new sound step.upheld front (stands_meanwhile number old new sound front step.meanwhile)
            (λ told. grows_none Is (keeping.log old.board) (keeping.log new.board) same_log)
            (λ told. inr (number, inl same_moment)),
      ) where
        stands : (other : ℕ) → At other old.maps new.maps (λ before after. after.standing ≡ before.standing)
        stands = everywhere (λ other before after. after.standing ≡ before.standing) number old.maps new.maps step.upheld.elsewhere (λ other kept there. refl)
            (opt_both {P = IsStillBehind keeping.history fault} (slice_get old.maps number) (slice_get new.maps number) (λ before after there here is. ap (λ (k : StoredMap D). k.standing) is.same) step.still)

        same_moment : rising.publisher_state keeping.log new ≡ rising.publisher_state keeping.log old
        same_moment = rw (step.not_shown, stand_same old.maps new.maps step.upheld.elsewhere.count stands) refl

        still_behind : (before after : StoredMap D) → slice_get old.maps number ≡ Some before → slice_get new.maps number ≡ Some after
            → IsStillBehind keeping.history fault before after → IsSome (keeping.history after.disk)
            → IsBehindMade Is number (keeping.log new.board) after.standing
        still_behind before after there here is told =
            let went = opt_at_both (StandsMeanwhile keeping.history)
            (slice_get old.maps number) (slice_get new.maps number) before after there here step.meanwhile in
            let told_then : IsSome (keeping.history before.disk) = told_before (keeping.history before.disk) (keeping.history after.disk) went.stands.goes_on told in
            let made : IsBehindMade Is number (keeping.log old.board) before.standing =
            opt_at (λ (kept : StoredMap D). IsSome (keeping.history kept.disk) → IsBehindMade Is number (keeping.log old.board) kept.standing) (slice_get old.maps number) before there (sound.behind number) told_then in
            let standing : after.standing ≡ before.standing = ap (λ (k : StoredMap D). k.standing) is.same in
            subst (λ (l : Log). IsBehindMade Is number l after.standing) (sym (ap keeping.log step.not_shown))
            (subst (λ (s : MapStanding). IsBehindMade Is number (keeping.log old.board) s) (sym standing) made)

  -- a map that is opened
  pub opens_on : (number : ℕ) (old new : Published D B) → number < length old.maps → Sound old → Opens keeping number old new → Sound new × Passes old new
  opens_on number old new within sound step =
      let front : IsFront (keeping.log old.board) (keeping.log new.board) =
      at_one (λ before after.
      ((new.board ≡ old.board) × (after.version ≡ before.version))
      ⊎ ((version : MapVersion) × IsAnother version before after × (keeping.log new.board ≡ with_shown number version (keeping.log old.board))))
      number old.maps new.maps within step.upheld.elsewhere.count
      (λ before after one. elim one [ inl none ↦ front_same keeping.log old.board new.board none.0 | inr more ↦ front_more number more.0 (keeping.log old.board) (keeping.log new.board) more.2 ])
      step.shown in (
        step_sound number old new front sound step.upheld
            (opt_one (slice_get new.maps number) (λ kept there level told. subst (λ (s : MapStanding). IsBehindMade Is number (keeping.log new.board) s) (sym level) tt) step.level),
        step_passes number old new sound step.upheld front (stands_meanwhile number old new sound front step.meanwhile)
            (λ told. reopened (the_map old.maps number within) told)
            (λ told. inr (number, rises (the_map old.maps number within) told)),
      ) where
        rises : (kept : StoredMap D) × (slice_get old.maps number ≡ Some kept) → OfMap number old.maps (λ kept. IsSome (keeping.history kept.disk))
            → Reopens number (rising.publisher_state keeping.log old) (rising.publisher_state keeping.log new)
        rises map told =
            opt_at (λ (kept : StoredMap D). IsSome (keeping.history kept.disk) → Reopens number (rising.publisher_state keeping.log old) (rising.publisher_state keeping.log new)) (slice_get old.maps number) map.0 map.1 step.rising
            (opt_at Told (slice_get old.maps number) map.0 map.1 told)

        reopened : (kept : StoredMap D) × (slice_get old.maps number ≡ Some kept) → OfMap number old.maps (λ kept. IsSome (keeping.history kept.disk))
            → GrowsBy Is (keeping.log old.board) (keeping.log new.board)
        reopened map told =
            let told_here : IsSome (keeping.history map.0.disk) = opt_at Told (slice_get old.maps number) map.0 map.1 told in
            let made : IsBehindMade Is number (keeping.log old.board) map.0.standing =
            opt_at (λ (kept : StoredMap D). IsSome (keeping.history kept.disk) → IsBehindMade Is number (keeping.log old.board) kept.standing) (slice_get old.maps number) map.0 map.1 (sound.behind number) told_here in
            elim (rises map told) [
              | inl e ↦ grows_none Is (keeping.log old.board) (keeping.log new.board) (ap (λ (m : rising.PublisherState). m.log) e)
              | inr was ↦ elim was.2 [
                | inl e ↦ grows_none Is (keeping.log old.board) (keeping.log new.board) (ap (λ (m : rising.PublisherState). m.log) e)
                | inr e ↦
                    let behind : map.0.standing ≡ Behind was.0 = same_Some map.0.standing (Behind was.0) (sym (standing_there old.maps number map.0 map.1) ∙ was.1) in
                    grows_one Is number was.0 (keeping.log old.board) (keeping.log new.board)
                    (subst (λ (s : MapStanding). IsBehindMade Is number (keeping.log old.board) s) behind made) (ap (λ (m : rising.PublisherState). m.log) e)
              ]
            ]

  -- a version that was made and offered
  pub offers_on : (number : ℕ) (version : MapVersion) (old new : Published D B) → number < length old.maps → Sound old
      → OfMap number old.maps (λ kept. kept.standing ≡ Level) → Is number (keeping.log old.board) version
      → Upholds keeping number old new → At number old.maps new.maps (LeavesEither keeping.history version)
      → InstallsNewer number version (rising.publisher_state keeping.log old) (rising.publisher_state keeping.log new) → Sound new × Passes old new
  offers_on number version old new within sound level made upheld leaves rises =
      let front : IsFront (keeping.log old.board) (keeping.log new.board) = elim rises [
        | inl e ↦ front_none (keeping.log old.board) (keeping.log new.board) (ap (λ (m : rising.PublisherState). m.log) e)
        | inr stores ↦ elim stores.1.1 [
          | inl e ↦ front_more number version (keeping.log old.board) (keeping.log new.board) (ap (λ (m : rising.PublisherState). m.log) e)
          | inr e ↦ front_none (keeping.log old.board) (keeping.log new.board) (ap (λ (m : rising.PublisherState). m.log) e)
        ]
      ] in
      let grows : GrowsBy Is (keeping.log old.board) (keeping.log new.board) = elim rises [
        | inl e ↦ grows_none Is (keeping.log old.board) (keeping.log new.board) (ap (λ (m : rising.PublisherState). m.log) e)
        | inr stores ↦ elim stores.1.1 [
          | inl e ↦ grows_one Is number version (keeping.log old.board) (keeping.log new.board) made (ap (λ (m : rising.PublisherState). m.log) e)
          | inr e ↦ grows_none Is (keeping.log old.board) (keeping.log new.board) (ap (λ (m : rising.PublisherState). m.log) e)
        ]
      ] in (
        step_sound number old new front sound upheld
            (opt_one {P = λ kept. IsStanding keeping.history kept} (slice_get new.maps number) (λ kept there standing told. standing_so (the_map old.maps number within) kept there) upheld.standing),
        step_passes number old new sound upheld front
            (meanwhile number old new sound front
            (λ image stored. inr (version, made, stored)) leaves)
            (λ told. grows) (λ told. inl (number, version, rises)),
      ) where
        -- a map that stands as before is level
        level_so : (was : (kept : StoredMap D) × (slice_get old.maps number ≡ Some kept)) (kept : StoredMap D) → slice_get new.maps number ≡ Some kept
            → map (λ (k : StoredMap D). k.standing) new.maps ≡ map (λ (k : StoredMap D). k.standing) old.maps → IsBehindMade Is number (keeping.log new.board) kept.standing
        level_so was kept there e =
            let before : was.0.standing ≡ Level = opt_at (λ (k : StoredMap D). k.standing ≡ Level) (slice_get old.maps number) was.0 was.1 level in
            let now : kept.standing ≡ was.0.standing =
            same_Some kept.standing was.0.standing (sym (standing_there new.maps number kept there) ∙ ap (λ (l : List MapStanding). slice_get l number) e ∙ standing_there old.maps number was.0 was.1) in
            subst (λ (s : MapStanding). IsBehindMade Is number (keeping.log new.board) s) (sym (now ∙ before)) tt

        standing_so : (kept : StoredMap D) × (slice_get old.maps number ≡ Some kept) → (kept : StoredMap D) → slice_get new.maps number ≡ Some kept → IsBehindMade Is number (keeping.log new.board) kept.standing
        standing_so was kept there = elim rises [
          | inl e ↦ level_so was kept there (ap (λ (m : rising.PublisherState). m.standings) e)
          | inr stores ↦ elim stores.1.1 [
            | inl e ↦ level_so was kept there (ap (λ (m : rising.PublisherState). m.standings) e)
            | inr e ↦
                let long : number < length (map (λ (k : StoredMap D). k.standing) old.maps) = subst (λ (n : ℕ). number < n) (sym (length-map old.maps (λ (k : StoredMap D). k.standing))) within in
                let now : kept.standing ≡ Behind version =
                same_Some kept.standing (Behind version) (sym (standing_there new.maps number kept there) ∙ ap (λ (m : rising.PublisherState). slice_get m.standings number) e ∙ put_there (map (λ (k : StoredMap D). k.standing) old.maps) number (Behind version) long) in
                subst (λ (s : MapStanding). IsBehindMade Is number (keeping.log new.board) s) (sym now)
                (subst (λ (l : Log). Is number l version) (sym (ap (λ (m : rising.PublisherState). m.log) e)) made)
          ]
        ]
