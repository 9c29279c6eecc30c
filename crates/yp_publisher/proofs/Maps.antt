-- What is kept of maps, of which one was changed.
use Rattle.std.proofs.Common.{◌≡◌, ◌≢◌, ◌⊎◌, inl, inr, ℕ, ◌<◌, ◌≤◌, true, false, List, [], ◌∷◌, map, length, slice_get}
use Rattle.std.proofs.Common.{slice_set, slice_index_or, get_or, set, Option, Some, None, IfSome, Result, Ok, Err, OnOk}
use Rattle.std.proofs.Common.{OnErr, IfOk, IfErr, IsSome, option_map, if◌then◌else◌, ◌==◌, refl, sym, ◌∙◌, ap, subst}
use Rattle.std.proofs.Common.{eq-eqb, eqb}
use Rattle.std.proofs.lemmas.Option.{get_or_from_slice_get, slice_get_read, slice_get_within, slice_get-map}
use Rattle.std.proofs.lemmas.List.{length-set, get_or-set_same, get_or-set_other, map-set, length-map, set-get_or}
use Rattle.std.proofs.lemmas.List.Sums.{fold-append}
use Rattle.std.proofs.lemmas.Bool.{ne_eqb, cases_eq}
use Rattle.std.proofs.Math.Seq.{map-set_same}
use Rattle.yp_io.specs.Disk.{History, MayLeave, IsReadAnImage}
use Rattle.yp_version.specs.Versions.{MapVersion}
use Rattle.yp_map_file.specs.Stands.{Stored, stands}
use Rattle.yp_board.specs.Logs.{Log, shown}
use Rattle.yp_publisher.specs.Standing.{MapStanding, Level, Behind, StoredMap, StandsAs, IsStanding, stands_for, OfMap, At}
use Rattle.yp_publisher.specs.Standing.{IsSameElsewhere, versions, Shows}
use Rattle.yp_publisher.specs.inside.Starts.{IsPublisher}
use Rattle.yp_publisher.specs.Opens.{IsAnother, IsWhatStood}
use Rattle.yp_publisher.specs.Rising.{Stores, Reopens, with_shown}
use Rattle.yp_publisher.proofs.Moments.{was_failed}
use Rattle.yp_publisher.proofs.Lists.{get_set, get_set_other}

-- ---- results

pub on_ok : {T E P Q : Type 0} (r : Result T E) → (P → Q) → OnOk r P → OnOk r Q
on_ok (Ok x) f h = f h
on_ok (Err e) f h = tt

pub if_ok : {T E : Type 0} {P Q : T → Type 0} (r : Result T E) → ((x : T) → P x → Q x) → IfOk r P → IfOk r Q
if_ok (Ok x) f h = f x h
if_ok (Err e) f h = tt

pub on_err : {T E P Q : Type 0} (r : Result T E) → (P → Q) → OnErr r P → OnErr r Q
on_err (Ok x) f h = tt
on_err (Err e) f h = f h

pub if_err : {T E : Type 0} {P Q : E → Type 0} (r : Result T E) → ((e : E) → P e → Q e) → IfErr r P → IfErr r Q
if_err (Ok x) f h = tt
if_err (Err e) f h = f e h

-- ---- one map

-- the map that the code looks at
pub read_map : {D : Type 0} (now maps : List (StoredMap D)) (n : ℕ) (x : StoredMap D) → maps ≡ now → n < length now
    → x ≡ get_or maps n x → slice_get now n ≡ Some x
read_map now maps n x same lt is = slice_get_read now (length now) n x refl lt (is
    ∙ ap (λ (l : List (StoredMap _)). get_or l n x) same)

pub of_read : {D : Type 0} (Q : StoredMap D → Type 0) (now : List (StoredMap D)) (n : ℕ) (x : StoredMap D) → slice_get now n ≡ Some x
    → Q x → OfMap n now Q
of_read {D} Q now n x there q = subst (λ (o : Option (StoredMap D)). IfSome o Q) (sym there) q

pub of_at : {D : Type 0} (Q : StoredMap D → Type 0) (now : List (StoredMap D)) (n : ℕ) (x : StoredMap D) → slice_get now n ≡ Some x
    → OfMap n now Q → Q x
of_at {D} Q now n x there q = subst (λ (o : Option (StoredMap D)). IfSome o Q) there q

pub of_set : {D : Type 0} (Q : StoredMap D → Type 0) (maps : List (StoredMap D)) (n : ℕ) (y : StoredMap D) → n < length maps → Q y
    → OfMap n (slice_set maps n y) Q
of_set Q maps n y lt q = of_read Q (slice_set maps n y) n y (get_set maps n y lt) q

pub at_set : {D : Type 0} (P : StoredMap D → StoredMap D → Type 0) (now maps : List (StoredMap D)) (n : ℕ) (x y : StoredMap D) → maps ≡ now
    → slice_get now n ≡ Some x → P x y → At n now (slice_set maps n y) P
at_set {D} P now maps n x y same there p =
    let lt : n < length maps = subst (λ (l : List (StoredMap D)). n < length l) (sym same) (slice_get_within now n x there)
    in
    of_read (λ before. OfMap n (slice_set maps n y) (P before)) now n x there (of_set (P x) maps n y lt p)

pub at_same : {D : Type 0} (P : StoredMap D → StoredMap D → Type 0) (now : List (StoredMap D)) (n : ℕ) (x : StoredMap D)
    → slice_get now n ≡ Some x → P x x → At n now now P
at_same P now n x there p = of_read (λ before. OfMap n now (P before)) now n x there (of_read (P x) now n x there p)

pub elsewhere_set : {D : Type 0} (now maps : List (StoredMap D)) (n : ℕ) (y : StoredMap D) → maps ≡ now
    → IsSameElsewhere n now (slice_set maps n y)
elsewhere_set {D} now maps n y same = record {
  count = length-set maps n y ∙ ap length same;
  others = λ other ne. get_set_other maps n other y ne ∙ ap (λ (l : List (StoredMap D)). slice_get l other) same;
}

-- ---- what is shown

-- a version that is shown is the last one of its map
pub shown_more : (n : ℕ) (version : MapVersion) (log : Log) → shown n (with_shown n version log) ≡ Some version
shown_more n version log =
    let e : eqb n n ≡ true = eq-eqb n n refl in
    fold-append (λ (so_far : Option MapVersion) (entry : ℕ × MapVersion). if entry.0 == n then Some entry.1
    else so_far) None log ((n, version) ∷ []) ∙ rw e refl

pub shown_other : (n other : ℕ) (version : MapVersion) (log : Log) → other ≢ n
    → shown other (with_shown n version log) ≡ shown other log
shown_other n other version log ne =
    let e : eqb n other ≡ false = ne_eqb n other (λ same. ne (sym same)) in
    fold-append (λ (so_far : Option MapVersion) (entry : ℕ × MapVersion). if entry.0 == other then Some entry.1
    else so_far) None log ((n, version) ∷ []) ∙ rw e refl

-- the version that is kept of a map, after one was changed
version_at : {D : Type 0} (maps : List (StoredMap D)) (n : ℕ) (y : StoredMap D) (number : ℕ) → n < length maps
    → ((number ≡ n) × (slice_index_or (versions (slice_set maps n y)) number None ≡ y.version))
    ⊎ ((number ≢ n) × (slice_index_or (versions (slice_set maps n y)) number None ≡
    slice_index_or (versions maps) number None))
version_at {D} maps n y number lt =
    let f : StoredMap D → Option MapVersion = λ kept. kept.version in
    let e : versions (slice_set maps n y) ≡ set (versions maps) n y.version = map-set f maps n y in
    let within : n < length (versions maps) = subst (λ (k : ℕ). n < k) (sym (length-map maps f)) lt in
    elim (cases_eq number n) [
      | inl same ↦ inl (
        same,
        ap (λ (l : List (Option MapVersion)). get_or l number None) e
            ∙ ap (λ (k : ℕ). get_or (set (versions maps) n y.version) k None) same
            ∙ get_or-set_same (versions maps) n y.version None within,
      )
      | inr other ↦ inr (
        other,
        ap (λ (l : List (Option MapVersion)). get_or l number None) e
            ∙ get_or-set_other (versions maps) n number y.version None other,
      )
    ]

pub shows_more : {D : Type 0} (log : Log) (maps : List (StoredMap D)) (n : ℕ) (y : StoredMap D) (version : MapVersion)
    → n < length maps → y.version ≡ Some version
    → Shows log (versions maps) → Shows (with_shown n version log) (versions (slice_set maps n y))
shows_more log maps n y version lt is shows = λ number. elim (version_at maps n y number lt) [
  | inl same ↦ ap (λ (k : ℕ). shown k (with_shown n version log)) same.0 ∙ shown_more n version log ∙ sym is
      ∙ sym same.1
  | inr other ↦ shown_other n number version log other.0 ∙ shows number ∙ sym other.1
]

pub shows_same : {D : Type 0} (log : Log) (maps : List (StoredMap D)) (n : ℕ) (x y : StoredMap D) → slice_get maps n ≡ Some x
    → y.version ≡ x.version
    → Shows log (versions maps) → Shows log (versions (slice_set maps n y))
shows_same {D} log maps n x y there is shows =
    λ number. elim (version_at maps n y number (slice_get_within maps n x there)) [
      | inl same ↦
          let f : StoredMap D → Option MapVersion = λ kept. kept.version in
          let here : slice_get (versions maps) n ≡ Some x.version = slice_get-map f maps n ∙ ap (option_map f) there in
          let old : get_or (versions maps) n None ≡ x.version =
          get_or_from_slice_get (versions maps) n x.version None here in
          shows number ∙ ap (λ (k : ℕ). get_or (versions maps) k None) same.0 ∙ old ∙ sym is ∙ sym same.1
      | inr other ↦ shows number ∙ sym other.1
    ]

-- the same after a call that shows a version where it is Ok
pub shows_after : {D E T : Type 0} (r : Result T E) (log after : Log) (maps : List (StoredMap D)) (n : ℕ) (x y : StoredMap D)
    (version : MapVersion) → slice_get maps n ≡ Some x
    → OnOk r (after ≡ with_shown n version log) → OnErr r (after ≡ log) → OnOk r (y.version ≡ Some version)
    → OnErr r (y.version ≡ x.version)
    → Shows log (versions maps) → Shows after (versions (slice_set maps n y))
shows_after {D} (Ok t) log after maps n x y version there more same new kept shows =
    subst (λ (l : Log). Shows l (versions (slice_set maps n y))) (sym more)
    (shows_more log maps n y version (slice_get_within maps n x there) new shows)
shows_after {D} (Err e) log after maps n x y version there more same new kept shows =
    subst (λ (l : Log). Shows l (versions (slice_set maps n y))) (sym same) (shows_same log maps n x y there kept shows)

-- what a reopen shows: nothing, or a version other than the one that was shown
abbrev pub Reshown : {D : Type 0} → ℕ → (log after : Log) → StoredMap D → StoredMap D → Type 0
Reshown n log after x y =
    ((after ≡ log) × (y.version ≡ x.version))
    ⊎ ((version : MapVersion) × IsAnother version x y × (after ≡ with_shown n version log))

pub shows_reopened : {D T E : Type 0} (r : Result T E) (log after : Log) (maps : List (StoredMap D)) (n : ℕ) (x y : StoredMap D)
    → slice_get maps n ≡ Some x
    → OnOk r (Reshown n log after x y) → OnErr r (after ≡ log) → OnErr r (y.version ≡ x.version)
    → Shows log (versions maps) → Shows after (versions (slice_set maps n y))
shows_reopened {D} (Ok t) log after maps n x y there ok unshown kept shows =
    let P : Log → Type 0 = λ l. Shows l (versions (slice_set maps n y)) in
    elim ok [
      | inl same ↦ subst P (sym same.0) (shows_same log maps n x y there same.1 shows)
      | inr more ↦ subst P (sym more.2)
          (shows_more log maps n y more.0 (slice_get_within maps n x there) more.1.shown shows)
    ]
shows_reopened {D} (Err e) log after maps n x y there ok unshown kept shows =
    subst (λ (l : Log). Shows l (versions (slice_set maps n y))) (sym unshown)
    (shows_same log maps n x y there kept shows)

-- ---- what steps a log makes

standings_set : {D : Type 0} (maps : List (StoredMap D)) (n : ℕ) (y : StoredMap D) (standing : MapStanding)
    → y.standing ≡ standing
    → map (λ (kept : StoredMap D). kept.standing) (slice_set maps n y) ≡
    slice_set (map (λ (kept : StoredMap D). kept.standing) maps) n standing
standings_set {D} maps n y standing is =
    map-set (λ (kept : StoredMap D). kept.standing) maps n y
    ∙ ap (λ (s : MapStanding). set (map (λ (kept : StoredMap D). kept.standing) maps) n s) is

pub standing_there : {D : Type 0} (maps : List (StoredMap D)) (n : ℕ) (x : StoredMap D) → slice_get maps n ≡ Some x
    → slice_get (map (λ (kept : StoredMap D). kept.standing) maps) n ≡ Some x.standing
standing_there {D} maps n x there = slice_get-map (λ (kept : StoredMap D). kept.standing) maps n
    ∙ ap (option_map (λ (kept : StoredMap D). kept.standing)) there

-- a level map that stays level
standings_same : {D : Type 0} (maps : List (StoredMap D)) (n : ℕ) (x y : StoredMap D) → slice_get maps n ≡ Some x
    → y.standing ≡ x.standing
    → map (λ (kept : StoredMap D). kept.standing) (slice_set maps n y) ≡ map (λ (kept : StoredMap D). kept.standing) maps
standings_same {D} maps n x y there is =
    map-set_same (λ (kept : StoredMap D). kept.standing) maps n y x (is
    ∙ ap (λ (kept : StoredMap D). kept.standing) (sym (get_or_from_slice_get maps n x x there)))

-- the step that an install makes
pub stores_after : {D E T : Type 0} (r : Result T E) (log after : Log) (maps : List (StoredMap D)) (n : ℕ) (x y : StoredMap D)
    (version : MapVersion) → slice_get maps n ≡ Some x → x.standing ≡ Level
    → OnOk r (after ≡ with_shown n version log) → OnErr r (after ≡ log) → OnOk r (y.standing ≡ Level)
    → OnErr r (y.standing ≡ Behind version)
    → Stores n version (record { log = log; standings = map (λ (kept : StoredMap D). kept.standing) maps })
    (record { log = after; standings = map (λ (kept : StoredMap D). kept.standing) (slice_set maps n y) })
stores_after {D} (Ok t) log after maps n x y version there level more same new kept = (
  standing_there maps n x there ∙ ap (λ (s : MapStanding). Some s) level,
  inl (ap (λ (l : Log). record { log = l; standings = map (λ (kept : StoredMap D). kept.standing) (slice_set maps n y) })
      more
      ∙ ap (λ (l : List MapStanding). record { log = with_shown n version log; standings = l })
      (standings_same maps n x y there (new ∙ sym level))),
)
stores_after {D} (Err e) log after maps n x y version there level more same new kept = (
  standing_there maps n x there ∙ ap (λ (s : MapStanding). Some s) level,
  inr (ap (λ (l : Log). record { log = l; standings = map (λ (kept : StoredMap D). kept.standing) (slice_set maps n y) })
      same
      ∙ ap (λ (l : List MapStanding). record { log = log; standings = l })
      (standings_set maps n y (Behind version) kept)),
)

-- what holds of a publisher holds after a map was changed, where the board shows that
pub publisher_set : {D : Type 0} (maps : List (StoredMap D)) (n : ℕ) (y : StoredMap D) (names : ℕ) (log after : Log)
    (board_maps board_maps_after capacity : ℕ) → IsPublisher maps names log board_maps capacity
    → board_maps_after ≡ board_maps → Shows after (versions (slice_set maps n y))
    → IsPublisher (slice_set maps n y) names after board_maps_after capacity
publisher_set maps n y names log after board_maps board_maps_after capacity is same shows = record {
  named = length-set maps n y ∙ is.named;
  on_board = same ∙ is.on_board;
  shows = shows;
  room = subst (λ (k : ℕ). k ≤ capacity) (sym (length-set maps n y)) is.room;
}

-- where one map was changed, all stand as they should
pub stand_set : {D : Type 0} (history : D → Option History) (maps : List (StoredMap D)) (n : ℕ) (y : StoredMap D) → n < length maps
    → ((number : ℕ) → OfMap number maps (IsStanding history)) → IsStanding history y
    → (number : ℕ) → OfMap number (slice_set maps n y) (IsStanding history)
stand_set {D} history maps n y within all one number = elim (cases_eq number n) [
  | inl e ↦ subst (λ (k : ℕ). OfMap k (slice_set maps n y) (IsStanding history)) (sym e) (of_set (IsStanding history) maps n y within one)
  | inr ne ↦ subst (λ (o : Option (StoredMap D)). IfSome o (IsStanding history)) (sym (get_set_other maps n number y ne)) (all number)
]

-- what is put back where it stood
pub put_back : {D : Type 0} (maps : List (StoredMap D)) (n : ℕ) (x y : StoredMap D) → slice_get maps n ≡ Some x → y ≡ x
    → slice_set maps n y ≡ maps
put_back {D} maps n x y there same =
    ap (λ (k : StoredMap D). slice_set maps n k) (same ∙ sym (get_or_from_slice_get maps n x x there)) ∙ set-get_or maps n x

abbrev pub standings : {D : Type 0} → List (StoredMap D) → List MapStanding
standings {D} maps = map (λ (kept : StoredMap D). kept.standing) maps

-- the step that a reopen makes
pub reopens_done : {D : Type 0} (H : D
    → Option History) (log after : Log) (maps : List (StoredMap D)) (n : ℕ) (x y : StoredMap D) (standing : MapStanding)
    → x.standing ≡ standing → slice_get maps n ≡ Some x
    → (x.standing ≡ Level → (y.standing ≡ x.standing) × (after ≡ log)) → y.standing ≡ Level → Reshown n log after x y
    → (x.standing ≢ Level → IsWhatStood H x.disk y)
    → IsStanding H x → IsReadAnImage (H x.disk) → IsSome (H x.disk)
    → Reopens n (record { log = log; standings = standings maps }) (record {
      log = after;
      standings = standings (slice_set maps n y);
    })
reopens_done {D} H log after maps n x y Level is there level now shown stood before reads told =
    let same = level is in
    inl (ap (λ (l : Log). record { log = l; standings = standings (slice_set maps n y) }) same.1
    ∙ ap (λ (l : List MapStanding). record { log = log; standings = l }) (standings_same maps n x y there same.0))
reopens_done {D} H log after maps n x y (Behind failed) is there level now shown stood before reads told =
    let behind : x.standing ≢ Level = λ e. (let no : Behind failed ≡ Level = sym is ∙ e in cc) in
    let set_level = standings_set maps n y Level now in
    inr (
      failed,
      standing_there maps n x there ∙ ap (λ (s : MapStanding). Some s) is,
      elim shown [
        | inl same ↦ inl (ap (λ (l : Log). record { log = l; standings = standings (slice_set maps n y) }) same.0
            ∙ ap (λ (l : List MapStanding). record { log = log; standings = l }) set_level)
        | inr more ↦
            let images : (image : List ℕ) → MayLeave (H x.disk) image
            → StandsAs (Behind failed) x.version image =
            λ image left. subst (λ (s : MapStanding). StandsAs s x.version image) is (before image left) in
            let what = stood behind in
            let version : IfSome (H x.disk) (λ h. stands h.state.reads ≡ Stored more.0) =
            subst (λ (o : Option MapVersion). IfSome (H x.disk) (λ h. stands h.state.reads ≡ stands_for o))
            more.1.shown what.version in
            let same = was_failed (H x.disk) failed more.0 x.version reads images version more.1.another told in
            inr (ap (λ (l : Log). record { log = l; standings = standings (slice_set maps n y) }) (more.2
            ∙ ap (λ (v : MapVersion). with_shown n v log) same)
            ∙ ap (λ (l : List MapStanding). record { log = with_shown n failed log; standings = l }) set_level)
      ],
    )

pub reopens_after : {D T E : Type 0} (H : D
    → Option History) (r : Result T E) (log after : Log) (maps : List (StoredMap D)) (n : ℕ) (x y : StoredMap D)
    → slice_get maps n ≡ Some x
    → (x.standing ≡ Level → (y.standing ≡ x.standing) × (after ≡ log)) → OnOk r (y.standing ≡ Level)
    → OnOk r (Reshown n log after x y) → OnOk r (x.standing ≢ Level → IsWhatStood H x.disk y)
    → OnErr r (after ≡ log) → OnErr r (y.standing ≡ x.standing) → IsStanding H x → IsReadAnImage (H x.disk)
    → IsSome (H x.disk)
    → Reopens n (record { log = log; standings = standings maps }) (record {
      log = after;
      standings = standings (slice_set maps n y);
    })
reopens_after {D} H (Ok t) log after maps n x y there level now shown stood unshown stays before reads told =
    reopens_done H log after maps n x y x.standing refl there level now shown stood before reads told
reopens_after {D} H (Err e) log after maps n x y there level now shown stood unshown stays before reads told =
    inl (ap (λ (l : Log). record { log = l; standings = standings (slice_set maps n y) }) unshown
    ∙ ap (λ (l : List MapStanding). record { log = log; standings = l }) (standings_same maps n x y there stays))
