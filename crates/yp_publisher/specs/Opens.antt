-- The opening of a map's file, at the start and after an install that failed.
use Rattle.std.specs.Prelude.{◌≡◌, ◌≢◌, ◌⊎◌, ◌++◌, ◌≤◌, ◌∷◌, ℕ, List, map, length, Option, Some, IfSome, IsSome, IsNone}
use Rattle.std.specs.Prelude.{Err, ⊤}
use Rattle.std.specs.List.{AllZip}
use Rattle.yp_io.specs.Counts.{HasRisen}
use Rattle.yp_io.specs.Disk.{History, LeavesOnly, MayLeave}
use Rattle.yp_version.specs.Versions.{MapVersion}
use Rattle.yp_map_file.specs.declared.fault.SlotFault.{SlotFault}
use Rattle.yp_map_file.specs.declared.fault.SlotFault.TheVariants.{DiskFault, NoMemory, Damaged}
use Rattle.yp_map_file.specs.Loads.{Loads}
use Rattle.yp_map_file.specs.Slots.{HasGeneration}
use Rattle.yp_map_file.specs.Stands.{stands}
use Rattle.yp_publisher.specs.Standing.{Level, StoredMap, Published, StandsAs, IsStanding, OfMap, At, stands_for}
use Rattle.yp_publisher.specs.Keeping.{Keeping, Upholds, IsNotShown}
use Rattle.yp_publisher.specs.Rising.{with_shown, publisher_state, Reopens}

-- what the opening of a file does to its disk: no crash leaves what none might have left before
abbrev pub LeavesNoMore : {D : Type 0} → (D → Option History) → D → D → Type 0
LeavesNoMore history before after = LeavesOnly (history before) (history after) (MayLeave (history before))

-- the version, or none, and the generation are what the file stood for
pub record IsWhatStood {D : Type 0} (history : D → Option History) (before : D) (kept : StoredMap D) : Type 0 where
  pub version : IfSome (history before) (λ h. stands h.state.reads ≡ stands_for kept.version)
  pub generation : HasGeneration (history before) kept.generation

-- a disk was opened at the start
pub record IsOpened {D : Type 0} (history : D → Option History) (faults : D → ℕ) (before : D)
    (kept : StoredMap D) : Type 0 where
  pub stood : IsWhatStood history before kept
  pub level : kept.standing ≡ Level
  pub standing : IsStanding history kept
  pub moments : LeavesNoMore history before kept.disk
  pub never_falls : faults before ≤ faults kept.disk

-- a disk wasn't opened, for this cause
pub record DiskIsRefused {D : Type 0} (history : D → Option History) (faults : D → ℕ) (before after : D)
    (fault : SlotFault) : Type 0 where
  pub cause : IfSome (history before) (λ h. Loads (stands h.state.reads) (Err fault))
  pub disk_fault : fault ≡ DiskFault → HasRisen (faults before) (faults after)
  pub moments : LeavesNoMore history before after
  pub never_falls : faults before ≤ faults after

-- The disks in front of a map's were opened, its own was refused, and those behind it weren't called. The two lists and
-- its number fix the disks, and what their files stood for fixes what was opened.
pub record OpeningStopped {D : Type 0} (history : D → Option History) (faults : D → ℕ) (old new : List D) (number : ℕ)
    (fault : SlotFault) : Type 0 where
  pub front : List D
  pub opened : List (StoredMap D)
  pub before : D
  pub after : D
  pub rest : List D
  pub old_is : old ≡ front ++ before ∷ rest
  pub new_is : new ≡ map (λ kept. kept.disk) opened ++ after ∷ rest
  pub number_is : number ≡ length front
  pub each : AllZip (IsOpened history faults) front opened
  pub refused : DiskIsRefused history faults before after fault

-- ---- again, after an install that failed

-- a version other than the one that is shown
pub record IsAnother {D : Type 0} (version : MapVersion) (before after : StoredMap D) : Type 0 where
  pub shown : after.version ≡ Some version
  pub another : before.version ≢ Some version

-- At each moment a crash leaves a file that stands as the map stood before, and none that it might not have left then.
pub record StandsMeanwhile {D : Type 0} (history : D → Option History) (before after : StoredMap D) : Type 0 where
  pub stands : LeavesOnly (history before.disk) (history after.disk) (StandsAs before.standing before.version)
  pub no_more : LeavesNoMore history before.disk after.disk

-- A version other than the one that is shown was shown, or none was.
abbrev pub ShowsWhatStood : {D B : Type 0} → Keeping D B → ℕ → Published D B → Published D B → Type 0
ShowsWhatStood keeping number old new = At number old.maps new.maps (λ before after.
    (IsNotShown old new × (after.version ≡ before.version))
    ⊎ ((version : MapVersion) × IsAnother version before after
    × (keeping.log new.board ≡ with_shown number version (keeping.log old.board))))

-- The map was level and nothing was done, or it is level with what its file stood for, and that is shown. The log goes
-- on rising, where the disk tells its history.
pub record Opens {D B : Type 0} (keeping : Keeping D B) (number : ℕ) (old new : Published D B) : Type 0 where
  pub upheld : Upholds keeping number old new
  pub level : OfMap number new.maps (λ map. map.standing ≡ Level)
  pub unchanged : OfMap number old.maps (λ map. map.standing ≡ Level → new ≡ old)
  pub stood : At number old.maps new.maps
      (λ before after. before.standing ≢ Level → IsWhatStood keeping.history before.disk after)
  pub shown : ShowsWhatStood keeping number old new
  pub meanwhile : At number old.maps new.maps (StandsMeanwhile keeping.history)
  pub rising : OfMap number old.maps (λ map. IsSome (keeping.history map.disk)
      → Reopens number (publisher_state keeping.log old) (publisher_state keeping.log new))

-- Why a file wasn't opened again: its disk failed, or memory ran out. It is damaged only where its disk tells nothing.
abbrev pub IsOpenCause : {D B : Type 0} → Keeping D B → SlotFault → StoredMap D → StoredMap D → Type 0
IsOpenCause keeping DiskFault before after = HasRisen (keeping.faults before.disk) (keeping.faults after.disk)
IsOpenCause keeping NoMemory before after = ⊤
IsOpenCause keeping (Damaged at rule) before after = IsNone (keeping.history before.disk)

-- The generation stays. It may be that of the file, where memory ran out once that was loaded.
abbrev pub IsGenerationLeft : Option History → SlotFault → (before after : ℕ) → Type 0
IsGenerationLeft history fault before after = (after ≡ before) ⊎ ((fault ≡ NoMemory) × HasGeneration history after)

-- But for its disk and its generation the map is as before.
pub record IsStillBehind {D : Type 0} (history : D → Option History) (fault : SlotFault)
    (before after : StoredMap D) : Type 0 where
  pub same : after ≡ record before { disk = after.disk; generation = after.generation }
  pub generation : IsGenerationLeft (history before.disk) fault before.generation after.generation

-- The map was behind, wasn't opened for this fault, and stands as before.
pub record StaysBehind {D B : Type 0} (keeping : Keeping D B) (number : ℕ) (fault : SlotFault)
    (old new : Published D B) : Type 0 where
  pub upheld : Upholds keeping number old new
  pub behind : OfMap number old.maps (λ map. map.standing ≢ Level)
  pub still : At number old.maps new.maps (IsStillBehind keeping.history fault)
  pub not_shown : IsNotShown old new
  pub cause : At number old.maps new.maps (IsOpenCause {B = B} keeping fault)
  pub meanwhile : At number old.maps new.maps (StandsMeanwhile keeping.history)
