-- A publisher of which one map was changed.
use Rattle.std.proofs.Common.{◌≡◌, ◌≢◌, ◌⊎◌, inl, inr, ℕ, ◌≤◌, List, slice_get, slice_set}
use Rattle.std.proofs.Common.{Option, IfSome, IsSome, Some, None, Result, Ok, Err, OnOk, OnErr, IfErr, IsOk, arith}
use Rattle.std.proofs.Common.{refl, sym, ◌∙◌, ap, subst}
use Rattle.std.proofs.lemmas.Option.{slice_get_within}
use Rattle.yp_io.specs.Counts.{HasRisen}
use Rattle.yp_io.specs.Disk.{History, IsReadAnImage}
use Rattle.yp_version.specs.Versions.{MapVersion}
use Rattle.yp_map_file.specs.inside.Laws.{FileIsBounded}
use Rattle.yp_map_file.specs.declared.fault.SlotFault.{SlotFault}
use Rattle.yp_board.specs.Catalogues.{Catalogue}
use Rattle.yp_board.specs.Logs.{Log}
use Rattle.yp_publisher.specs.declared.install.InstallFault.{InstallFault}
use Rattle.yp_publisher.specs.declared.install.InstallFault.TheVariants as fault
use Rattle.yp_publisher.specs.Standing.{Level, StoredMap, Published, IsStanding, IsNumbered, OfMap, At, Shows, versions}
use Rattle.yp_publisher.specs.Keeping.{Keeping, LeavesFew, Upholds, IsNotShown}
use Rattle.yp_publisher.specs.Opens.{LeavesNoMore, IsAnother, IsWhatStood, StandsMeanwhile, Opens, IsOpenCause}
use Rattle.yp_publisher.specs.Opens.{IsStillBehind, StaysBehind}
use Rattle.yp_publisher.specs.Installs.{OfferedVersion, IsInstallCause, IsUnopposed, IsUnsure, IsUnshown, FaultLeaves, install_refusal}
use Rattle.yp_publisher.specs.Rising.{with_shown, publisher_state, Reopens}
use Rattle.yp_publisher.proofs.Moments.{weaker, few}
use Rattle.yp_publisher.proofs.Maps.{of_read, of_set, at_set, at_same, elsewhere_set, put_back, Reshown, reopens_done}

-- ---- results

pub all_ok : {T E P Q R S : Type 0} (r : Result T E) → (P → Q → R → S) → OnOk r P → OnOk r Q → OnOk r R → OnOk r S
all_ok (Ok x) f p q k = f p q k
all_ok (Err e) f p q k = tt

pub all_err : {T E S : Type 0} {P Q R V : E → Type 0} (r : Result T E) → ((e : E) → P e → Q e → R e → S → V e)
    → IfErr r P → IfErr r Q → IfErr r R → OnErr r S → IfErr r V
all_err (Ok x) f p q k l = tt
all_err (Err e) f p q k l = f e p q k l

pub if_some : {A : Type 0} {P Q : A → Type 0} (o : Option A) → ((x : A) → P x → Q x) → IfSome o P → IfSome o Q
if_some None f h = tt
if_some (Some x) f h = f x h

-- ---- what a map's own reopening says

-- nothing was shown, or a version other than the one that was shown
abbrev pub Told : {D B : Type 0} → (D → Option History) → (B → Log) → (ℕ → MapVersion → B → B → Type 0) → ℕ → StoredMap D
    → StoredMap D → B → B → Type 0
Told history log showed n x y board after =
    ((after ≡ board) × (y.version ≡ x.version))
    ⊎ ((version : MapVersion) × IsAnother version x y × (log after ≡ with_shown n version (log board))
    × showed n version board after)

pub reshown : {D B : Type 0} (history : D → Option History) (log : B → Log) (showed : ℕ → MapVersion → B → B
    → Type 0) (n : ℕ) (x y : StoredMap D) (board after : B)
    → Told history log showed n x y board after → Reshown n (log board) (log after) x y
reshown history log showed n x y board after h =
    elim h [ inl kept ↦ inl (ap log kept.0, kept.1) | inr more ↦ inr (more.0, more.1, more.2) ]

-- the same without what it does to the whole board
abbrev pub Shown : {D B : Type 0} → (B → Log) → ℕ → StoredMap D → StoredMap D → B → B → Type 0
Shown log n x y board after =
    ((after ≡ board) × (y.version ≡ x.version))
    ⊎ ((version : MapVersion) × IsAnother version x y × (log after ≡ with_shown n version (log board)))

pub shown_of : {D B : Type 0} (history : D → Option History) (log : B → Log) (showed : ℕ → MapVersion → B → B
    → Type 0) (n : ℕ) (x y : StoredMap D) (board after : B)
    → Told history log showed n x y board after → Shown log n x y board after
shown_of history log showed n x y board after h =
    elim h [ inl kept ↦ inl kept | inr more ↦ inr (more.0, more.1, more.2) ]

pub still_version : {D T : Type 0} (history : D → Option History) (r : Result T SlotFault) (x y : StoredMap D)
    → IfErr r (λ why. IsStillBehind history why x y) → OnErr r (y.version ≡ x.version)
still_version history (Ok t) x y h = tt
still_version {D} history (Err why) x y h = ap (λ (k : StoredMap D). k.version) h.same

pub not_level : {D T : Type 0} (r : Result T SlotFault) (x : StoredMap D) → (x.standing ≡ Level → IsOk r)
    → IfErr r (λ why. x.standing ≢ Level)
not_level (Ok t) x h = tt
not_level (Err why) x h = λ e. (let no = h e in cc)

-- ---- a map that is as it was

pub upheld_same : {D B : Type 0} (keeping : Keeping D B) (published : Published D B) (n : ℕ) (x : StoredMap D)
    → slice_get published.maps n ≡ Some x
    → IsStanding keeping.history x → IsNumbered keeping.history x → LeavesFew keeping.history x x
    → Shows (keeping.log published.board) (versions published.maps)
    → Upholds keeping n published published
upheld_same keeping published n x there standing numbered bound shows = record {
  catalogue = refl;
  elsewhere = record { count = refl; others = λ other ne. refl };
  standing = of_read (IsStanding keeping.history) published.maps n x there standing;
  numbered = of_read (IsNumbered keeping.history) published.maps n x there numbered;
  shows = shows;
  never_falls = at_same (λ before after. keeping.faults before.disk ≤ keeping.faults after.disk)
      published.maps n x there (omega arith);
  bound = at_same (LeavesFew keeping.history) published.maps n x there bound;
}

-- ---- a map that was changed

module _ {D B : Type 0} (keeping : Keeping D B) (catalogue : Catalogue) (maps : List (StoredMap D)) (n : ℕ) (x y : StoredMap D)
    (board after : B) (there : slice_get maps n ≡ Some x) where
  abbrev pub old : Published D B
  old = record { catalogue = catalogue; maps = maps; board = board }

  abbrev pub new : Published D B
  new = record { catalogue = catalogue; maps = slice_set maps n y; board = after }

  pub at : (P : StoredMap D → StoredMap D → Type 0) → P x y → At n maps (slice_set maps n y) P
  at P p = at_set P maps maps n x y refl there p

  pub upheld : IsStanding keeping.history y → IsNumbered keeping.history y
      → Shows (keeping.log after) (versions (slice_set maps n y))
      → keeping.faults x.disk ≤ keeping.faults y.disk → LeavesFew keeping.history x y → Upholds keeping n old new
  upheld standing numbered shows falls bound = record {
    catalogue = refl;
    elsewhere = elsewhere_set maps maps n y refl;
    standing = of_set (IsStanding keeping.history) maps n y (slice_get_within maps n x there) standing;
    numbered = of_set (IsNumbered keeping.history) maps n y (slice_get_within maps n x there) numbered;
    shows = shows;
    never_falls = at (λ before after. keeping.faults before.disk ≤ keeping.faults after.disk) falls;
    bound = at (LeavesFew keeping.history) bound;
  }

  pub few_more : FileIsBounded → IsStanding keeping.history x → LeavesNoMore keeping.history x.disk y.disk
      → LeavesFew keeping.history x y
  few_more bounded before more =
      weaker (keeping.history x.disk) (keeping.history y.disk)
      (λ image left. few bounded x.standing x.version image (before image left)) more

  meanwhile : IsStanding keeping.history x → LeavesNoMore keeping.history x.disk y.disk
      → At n maps (slice_set maps n y) (StandsMeanwhile keeping.history)
  meanwhile before more =
      at (StandsMeanwhile keeping.history)
      (record { stands = weaker (keeping.history x.disk) (keeping.history y.disk) before more; no_more = more })

  pub opened : Upholds keeping n old new → y.standing ≡ Level → (x.standing ≡ Level → (y ≡ x) × (after ≡ board))
      → (x.standing ≢ Level → IsWhatStood keeping.history x.disk y) → Shown keeping.log n x y board after
      → IsStanding keeping.history x → LeavesNoMore keeping.history x.disk y.disk
      → IsReadAnImage (keeping.history x.disk) → Opens keeping n old new
  opened upheld level same stood shown before more reads = record {
    upheld = upheld;
    level = of_set (λ kept. kept.standing ≡ Level) maps n y (slice_get_within maps n x there) level;
    unchanged = of_read (λ kept. kept.standing ≡ Level → new ≡ old) maps n x there (λ e. unchanged (same e));
    stood = at (λ before after. before.standing ≢ Level → IsWhatStood keeping.history before.disk after) stood;
    shown = at (λ before after'. (IsNotShown old new × (after'.version ≡ before.version))
        ⊎ ((version : MapVersion) × IsAnother version before after'
        × (keeping.log after ≡ with_shown n version (keeping.log board)))) shown;
    meanwhile = meanwhile before more;
    rising = of_read (λ kept. IsSome (keeping.history kept.disk)
        → Reopens n (publisher_state keeping.log old) (publisher_state keeping.log new)) maps n x there (λ told. rises told);
  } where
    unchanged : (y ≡ x) × (after ≡ board) → new ≡ old
    unchanged e =
        ap (λ (l : List (StoredMap D)). record { catalogue = catalogue; maps = l; board = after })
        (put_back maps n x y there e.0)
        ∙ ap (λ (b : B). record { catalogue = catalogue; maps = maps; board = b }) e.1

    rises : IsSome (keeping.history x.disk) → Reopens n (publisher_state keeping.log old) (publisher_state keeping.log new)
    rises told =
        reopens_done keeping.history (keeping.log board) (keeping.log after) maps n x y x.standing refl there
        (λ e. (let s = same e in (ap (λ (k : StoredMap D). k.standing) s.0, ap keeping.log s.1))) level
        (elim shown [ inl kept ↦ inl (ap keeping.log kept.0, kept.1) | inr more ↦ inr more ]) stood before reads told

  pub stayed : (why : SlotFault) → Upholds keeping n old new → x.standing ≢ Level
      → IsStillBehind keeping.history why x y → after ≡ board → IsOpenCause keeping why x y
      → IsStanding keeping.history x → LeavesNoMore keeping.history x.disk y.disk → StaysBehind keeping n why old new
  stayed why upheld behind still unshown cause before more = record {
    upheld = upheld;
    behind = of_read (λ kept. kept.standing ≢ Level) maps n x there behind;
    still = at (IsStillBehind keeping.history why) still;
    not_shown = unshown;
    cause = at (IsOpenCause {B = B} keeping why) cause;
    meanwhile = meanwhile before more;
  }

-- ---- what a fault leaves

pub leaves_all : {D B : Type 0} (keeping : Keeping D B) (number : ℕ) (offered : OfferedVersion) (why : InstallFault)
    (published : Published D B) → (why ≡ fault.DiskFault → ⊥)
    → FaultLeaves keeping number offered why published published
leaves_all keeping number offered fault.Behind published early = refl
leaves_all keeping number offered (fault.Refused master) published early = refl
leaves_all keeping number offered (fault.Age shown order) published early = refl
leaves_all keeping number offered fault.GenerationsSpent published early = refl
leaves_all keeping number offered fault.DiskFault published early = absurd (early refl)
leaves_all keeping number offered fault.NoMemory published early = inl refl

-- where nothing stood against it
pub leaves_late : {D B : Type 0} (keeping : Keeping D B) (number : ℕ) (offered : OfferedVersion) (why : InstallFault)
    (old new : Published D B) → (why ≡ fault.DiskFault) ⊎ (why ≡ fault.NoMemory)
    → IsUnopposed number offered old
    → (why ≡ fault.DiskFault → At number old.maps new.maps
    (λ before after. HasRisen (keeping.faults before.disk) (keeping.faults after.disk)))
    → (why ≡ fault.DiskFault → At number old.maps new.maps (IsUnsure offered.version))
    → (why ≡ fault.NoMemory → At number old.maps new.maps (IsUnshown offered.version)) → IsNotShown old new
    → FaultLeaves keeping number offered why old new
leaves_late keeping number offered why old new late unopposed risen unsure unshown not_shown = elim late [
  | inl e ↦ subst (λ (f : InstallFault). FaultLeaves keeping number offered f old new) (sym e) (record {
    cause = risen e;
    behind = unsure e;
    not_shown = not_shown;
  })
  | inr e ↦ subst (λ (f : InstallFault). FaultLeaves keeping number offered f old new) (sym e)
      (inr (record { unopposed = unopposed; behind = unshown e; not_shown = not_shown }))
]

-- its cause is that nothing stood against it
pub no_cause_late : {D B : Type 0} (number : ℕ) (offered : OfferedVersion) (why : InstallFault) (old : Published D B)
    → (why ≡ fault.DiskFault) ⊎ (why ≡ fault.NoMemory)
    → IsUnopposed number offered old
    → OfMap number old.maps (λ kept. IsInstallCause why (install_refusal old.catalogue.own offered kept))
no_cause_late number offered why old late unopposed = elim late [
  | inl e ↦ subst (λ (f : InstallFault). OfMap number old.maps
      (λ kept. IsInstallCause f (install_refusal old.catalogue.own offered kept))) (sym e) unopposed
  | inr e ↦ subst (λ (f : InstallFault). OfMap number old.maps
      (λ kept. IsInstallCause f (install_refusal old.catalogue.own offered kept))) (sym e)
      (if_some (slice_get old.maps number) (λ kept none. inl none) unopposed)
]
