-- The installing of a version: why it is refused, and what it makes of its map.
use Rattle.std.specs.Prelude.{◌≡◌, ◌⊎◌, ℕ, ◌+◌, Bool, true, false, not, ◌&&◌, ◌==◌, List, bytes_eq, nat_le, Option}
use Rattle.std.specs.Prelude.{None, Some, if◌then◌else◌}
use Rattle.std.specs.Option.{option_or}
use Rattle.yp_io.specs.Counts.{HasRisen}
use Rattle.yp_io.specs.Disk.{History, LeavesOnly}
use Rattle.yp_version.specs.Versions.{MapVersion}
use Rattle.yp_map_file.specs.Commits.{generation_max}
use Rattle.yp_map_file.specs.Stands.{Stored, stands}
use Rattle.yp_publisher.specs.Standing.{MapStanding, Level, Behind, StoredMap, Published, StandsAs, OfMap, At}
use Rattle.yp_publisher.specs.Keeping.{Keeping, Upholds, IsNotShown}
use Rattle.yp_publisher.specs.Rising.{with_shown, publisher_state, InstallsNewer}
use Rattle.yp_publisher.specs.declared.install.Origin.{Origin}
use Rattle.yp_publisher.specs.declared.install.Origin.TheVariants.{Built, Fetched}
use Rattle.yp_publisher.specs.declared.install.InstallFault.{InstallFault}
use Rattle.yp_publisher.specs.declared.install.InstallFault.TheVariants as fault

-- a version that is offered, where it comes from, and whether it goes in whatever its order is
pub record OfferedVersion : Type 0 where
  pub version : MapVersion
  pub origin : Origin
  pub force : Bool

abbrev pub offer : MapVersion → Origin → Bool → OfferedVersion
offer version origin force = record { version = version; origin = origin; force = force }

-- why a version isn't installed: the map is behind; its versions come from this master, so not from here; the order
-- that is shown isn't under the offered one; the last generation is reached
pub data Refusal : Type 0 where
  IsBehind : Refusal
  HasMaster : List ℕ → Refusal
  IsNotNewer : (shown offered : ℕ) → Refusal
  IsSpent : Refusal

abbrev pub is_behind : MapStanding → Bool
is_behind Level = false
is_behind (Behind failed) = true

-- the host whose name is `own` builds the versions of which it is the master, and fetches all others
abbrev pub is_foreign : List ℕ → Origin → MapVersion → Bool
is_foreign own Built shown = not (bytes_eq shown.master own)
is_foreign own Fetched shown = bytes_eq shown.master own

-- whether the order isn't over the one that is shown, where that counts
abbrev pub is_no_newer : OfferedVersion → MapVersion → Bool
is_no_newer offered shown = not offered.force && nat_le offered.version.order shown.order

-- why an offered version doesn't follow the one that is shown
abbrev pub not_following : List ℕ → OfferedVersion → Option MapVersion → Option Refusal
not_following own offered None = None
not_following own offered (Some shown) =
    if is_foreign own offered.origin shown then Some (HasMaster shown.master)
    else if is_no_newer offered shown then Some (IsNotNewer shown.order offered.version.order)
    else None

-- why no further version can be stored
abbrev pub no_further : ℕ → Option Refusal
no_further generation = if generation == generation_max then Some IsSpent else None

-- why a version isn't installed, the first reason that applies
abbrev pub install_refusal : {D : Type 0} → List ℕ → OfferedVersion → StoredMap D → Option Refusal
install_refusal own offered kept =
    if is_behind kept.standing then Some IsBehind
    else option_or (not_following own offered kept.version) (no_further kept.generation)

-- A fault has its cause in why the version isn't installed, or comes where nothing stands against it. Memory may also
-- run out while the name of a master is copied.
abbrev pub IsInstallCause : InstallFault → Option Refusal → Type 0
IsInstallCause fault.Behind cause = cause ≡ Some IsBehind
IsInstallCause (fault.Refused master) cause = cause ≡ Some (HasMaster master.items)
IsInstallCause (fault.Age shown offered) cause = cause ≡ Some (IsNotNewer shown offered)
IsInstallCause fault.GenerationsSpent cause = cause ≡ Some IsSpent
IsInstallCause fault.DiskFault cause = cause ≡ None
IsInstallCause fault.NoMemory cause = (cause ≡ None) ⊎ ((master : List ℕ) × (cause ≡ Some (HasMaster master)))

-- the version is stored and shown
abbrev pub IsInstalled : {D : Type 0} → MapVersion → StoredMap D → StoredMap D → Type 0
IsInstalled version before after =
    after ≡ record { disk = after.disk; generation = before.generation + 1; version = Some version; standing = Level }

-- the version may be stored or not
abbrev pub IsUnsure : {D : Type 0} → MapVersion → StoredMap D → StoredMap D → Type 0
IsUnsure version before after = after ≡ record before { disk = after.disk; standing = Behind version }

-- the version is stored, and isn't shown
abbrev pub IsUnshown : {D : Type 0} → MapVersion → StoredMap D → StoredMap D → Type 0
IsUnshown version before after =
    after ≡ record before { disk = after.disk; generation = before.generation + 1; standing = Behind version }

-- At each moment a crash leaves a file that stands as the map stood, or for the version.
abbrev pub LeavesEither : {D : Type 0} → (D → Option History) → MapVersion → StoredMap D → StoredMap D → Type 0
LeavesEither history version before after =
    LeavesOnly (history before.disk) (history after.disk)
    (λ image. StandsAs before.standing before.version image ⊎ (stands image ≡ Stored version))

-- nothing stands against an offered version
abbrev pub IsUnopposed : {D B : Type 0} → ℕ → OfferedVersion → Published D B → Type 0
IsUnopposed number offered published =
    OfMap number published.maps (λ kept. install_refusal published.catalogue.own offered kept ≡ None)

-- The disk failed, and the version may be stored or not.
pub record FailsOnDisk {D B : Type 0} (keeping : Keeping D B) (number : ℕ) (offered : OfferedVersion)
    (old new : Published D B) : Type 0 where
  pub cause : At number old.maps new.maps
      (λ before after. HasRisen (keeping.faults before.disk) (keeping.faults after.disk))
  pub behind : At number old.maps new.maps (IsUnsure offered.version)
  pub not_shown : IsNotShown old new

-- Memory ran out once the version was stored, of one that nothing stands against.
pub record FailsToShow {D B : Type 0} (number : ℕ) (offered : OfferedVersion) (old new : Published D B) : Type 0 where
  pub unopposed : IsUnopposed number offered old
  pub behind : At number old.maps new.maps (IsUnshown offered.version)
  pub not_shown : IsNotShown old new

-- What a fault leaves: after one that comes before the disk is called, nothing has changed.
abbrev pub FaultLeaves : {D B : Type 0} → Keeping D B → ℕ → OfferedVersion → InstallFault → Published D B
    → Published D B → Type 0
FaultLeaves keeping number offered fault.Behind old new = new ≡ old
FaultLeaves keeping number offered (fault.Refused master) old new = new ≡ old
FaultLeaves keeping number offered (fault.Age shown order) old new = new ≡ old
FaultLeaves keeping number offered fault.GenerationsSpent old new = new ≡ old
FaultLeaves keeping number offered fault.DiskFault old new = FailsOnDisk keeping number offered old new
FaultLeaves keeping number offered fault.NoMemory old new = (new ≡ old) ⊎ FailsToShow number offered old new

-- where it isn't forced, the log goes on rising
abbrev pub GoesOnRising : {D B : Type 0} → Keeping D B → ℕ → OfferedVersion → Published D B → Published D B → Type 0
GoesOnRising keeping number offered old new =
    offered.force ≡ false → InstallsNewer number offered.version (publisher_state keeping.log old)
    (publisher_state keeping.log new)

-- An offered version was installed: nothing stood against it, it is stored, and then it was shown.
pub record Installs {D B : Type 0} (keeping : Keeping D B) (number : ℕ) (offered : OfferedVersion)
    (old new : Published D B) : Type 0 where
  pub upheld : Upholds keeping number old new
  pub unopposed : IsUnopposed number offered old
  pub installed : At number old.maps new.maps (IsInstalled offered.version)
  pub log : keeping.log new.board ≡ with_shown number offered.version (keeping.log old.board)
  pub meanwhile : At number old.maps new.maps (LeavesEither keeping.history offered.version)
  pub rising : GoesOnRising keeping number offered old new

-- An offered version wasn't installed, for this fault.
pub record Refuses {D B : Type 0} (keeping : Keeping D B) (number : ℕ) (offered : OfferedVersion) (fault : InstallFault)
    (old new : Published D B) : Type 0 where
  pub upheld : Upholds keeping number old new
  pub cause : OfMap number old.maps (λ kept. IsInstallCause fault (install_refusal old.catalogue.own offered kept))
  pub left : FaultLeaves keeping number offered fault old new
  pub meanwhile : At number old.maps new.maps (LeavesEither keeping.history offered.version)
  pub rising : GoesOnRising keeping number offered old new
