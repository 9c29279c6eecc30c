-- An install, from its steps.
use Rattle.std.proofs.Common.{◌≡◌, ◌⊎◌, inl, inr, ℕ, ◌<◌, [], ◌∷◌, length, None}
use Rattle.std.proofs.Common.{OnOk, OnErr, IfErr, Result, Ok, Err, ap, subst}
use Rattle.yp_version.specs.Versions.{MapVersion}
use Rattle.yp_board.specs.Catalogues.{Catalogue}
use Rattle.yp_board.specs.Logs.{shown}
use Rattle.yp_board.specs.Views.{IsFront}
use Rattle.yp_publisher.specs.declared.install.Origin.{Origin}
use Rattle.yp_publisher.specs.declared.install.InstallFault.{InstallFault}
use Rattle.yp_publisher.specs.declared.install.InstallFault.TheVariants as fault
use Rattle.yp_publisher.specs.Standing.{Published}
use Rattle.yp_publisher.specs.Keeping.{Keeping}
use Rattle.yp_publisher.specs.Installs.{OfferedVersion, FaultLeaves, Installs, not_following}
use Rattle.yp_publisher.specs.Opens.{IsAnother, Opens}
use Rattle.yp_publisher.specs.Rising.{with_shown}
use Rattle.yp_publisher.specs.declared.sharing.locked.ShareFault.{ShareFault}
use Rattle.yp_publisher.specs.declared.sharing.locked.ShareFault.TheVariants.{Shut, Unfit, Untold}
use Rattle.yp_publisher.specs.sharing.Shares.{offer_behind, IsShownBehind}
use Rattle.yp_publisher.specs.inside.sharing.Shares.{candidate, OpensAndInstalls, OfferIsRefused, IsNotInstalled}
use Rattle.yp_publisher.proofs.Growing.{at_one, front_same, front_then}

-- after a fault no version was shown
pub unshown : {D B : Type 0} (keeping : Keeping D B) (number : ℕ) (offered : OfferedVersion) (why : InstallFault)
    (old new : Published D B) → FaultLeaves keeping number offered why old new → new.board ≡ old.board
unshown {D} {B} keeping number offered fault.Behind old new h = ap (λ (p : Published D B). p.board) h
unshown {D} {B} keeping number offered (fault.Refused master) old new h = ap (λ (p : Published D B). p.board) h
unshown {D} {B} keeping number offered (fault.Age before order) old new h = ap (λ (p : Published D B). p.board) h
unshown {D} {B} keeping number offered fault.GenerationsSpent old new h = ap (λ (p : Published D B). p.board) h
unshown {D} {B} keeping number offered fault.DiskFault old new h = h.not_shown
unshown {D} {B} keeping number offered fault.NoMemory old new h = elim h [
  | inl same ↦ ap (λ (p : Published D B). p.board) same
  | inr fails ↦ fails.not_shown
]

-- ---- results

pub on_ok : {T E P Q : Type 0} (r : Result T E) → (P → Q) → OnOk r P → OnOk r Q
on_ok (Ok x) f h = f h
on_ok (Err e) f h = tt

pub if_err : {T E : Type 0} {P Q : E → Type 0} (r : Result T E) → ((e : E) → P e → Q e) → IfErr r P → IfErr r Q
if_err (Ok x) f h = tt
if_err (Err e) f h = f e h

-- what an offer adds to a log
offered_front : {T E D B : Type 0} (keeping : Keeping D B) (number : ℕ) (offered : OfferedVersion) (middle new : Published D B)
    (r : Result T E) → OnOk r (Installs keeping number offered middle new) → OnErr r (new.board ≡ middle.board)
    → IsFront (keeping.log middle.board) (keeping.log new.board)
offered_front keeping number offered middle new (Ok x) h k = ((number, offered.version) ∷ [], h.log)
offered_front keeping number offered middle new (Err e) h k = front_same keeping.log middle.board new.board k

-- what an opening shows
pub opened_front : {D B : Type 0} (keeping : Keeping D B) (number : ℕ) (old middle : Published D B)
    → number < length old.maps → Opens keeping number old middle
    → IsFront (keeping.log old.board) (keeping.log middle.board)
opened_front {D} {B} keeping number old middle lt opens =
    at_one (λ before after.
    ((middle.board ≡ old.board) × (after.version ≡ before.version))
    ⊎ ((version : MapVersion) × IsAnother version before after
    × (keeping.log middle.board ≡ with_shown number version (keeping.log old.board))))
    number old.maps middle.maps lt opens.upheld.elsewhere.count
    (λ before after one. elim one [
      | inl still ↦ front_same keeping.log old.board middle.board still.0
      | inr more ↦ ((number, more.0) ∷ [], more.2)
    ])
    opens.shown

module _ {D B : Type 0} (keeping : Keeping D B) (number : ℕ) (version : MapVersion) (origin : Origin)
    (old middle new : Published D B) (opens : Opens keeping number old middle) where
  pub installed : Installs keeping number (offer_behind number version origin (keeping.log middle.board)) middle new
      → OpensAndInstalls keeping (candidate number version origin) old new
  installed installs = record { middle = middle; opens = opens; installs = installs }

  pub refused : (why : ShareFault)
      → OfferIsRefused keeping number (offer_behind number version origin (keeping.log middle.board)) why middle new
      → IsNotInstalled keeping (candidate number version origin) why old new
  refused (Shut why) h = absurd h
  refused (Unfit why) h = record { middle = middle; opens = opens; refuses = h }
  refused Untold h = absurd h

  pub shown_behind : number < length old.maps
      → Installs keeping number (offer_behind number version origin (keeping.log middle.board)) middle new
      → not_following middle.catalogue.own (offer_behind number version origin (keeping.log middle.board))
      (shown number (keeping.log middle.board)) ≡ None
      → IsShownBehind old.catalogue.own number version origin (keeping.log old.board) (keeping.log new.board)
  shown_behind lt installs follows = record {
    before = keeping.log middle.board;
    begins = opened_front keeping number old middle lt opens;
    follows = subst (λ (k : Catalogue). not_following k.own (offer_behind number version origin (keeping.log middle.board))
        (shown number (keeping.log middle.board)) ≡ None) opens.upheld.catalogue follows;
    entry = installs.log;
  }

  -- both facts of an offer that was taken
  pub shown_both : {T E : Type 0} (r : Result T E) → number < length old.maps
      → OnOk r (Installs keeping number (offer_behind number version origin (keeping.log middle.board)) middle new)
      → OnOk r (not_following middle.catalogue.own (offer_behind number version origin (keeping.log middle.board))
      (shown number (keeping.log middle.board)) ≡ None)
      → OnOk r (IsShownBehind old.catalogue.own number version origin (keeping.log old.board) (keeping.log new.board))
  shown_both (Ok x) lt h k = shown_behind lt h k
  shown_both (Err e) lt h k = tt

  pub grown : {T E : Type 0} (r : Result T E) → number < length old.maps
      → OnOk r (Installs keeping number (offer_behind number version origin (keeping.log middle.board)) middle new)
      → OnErr r (new.board ≡ middle.board) → IsFront (keeping.log old.board) (keeping.log new.board)
  grown r lt h k =
      front_then (keeping.log old.board) (keeping.log middle.board) (keeping.log new.board)
      (opened_front keeping number old middle lt opens)
      (offered_front keeping number (offer_behind number version origin (keeping.log middle.board)) middle new r h k)
