-- How each map stands: the version that is shown of it, and what its file stands for after a crash.
use Rattle.std.specs.Prelude.{◌≡◌, ◌≢◌, ◌⊎◌, ℕ, List, map, length, slice_get, slice_index_or, Option, None, Some}
use Rattle.std.specs.Prelude.{IfSome}
use Rattle.yp_io.specs.Disk.{History, MayLeave}
use Rattle.yp_version.specs.Versions.{MapVersion}
use Rattle.yp_map_file.specs.Slots.{HasGeneration}
use Rattle.yp_map_file.specs.Stands.{Stands, Nothing, Stored, stands}
use Rattle.yp_board.specs.Catalogues.{Catalogue}
use Rattle.yp_board.specs.Logs.{Log, shown}

-- level, or behind a version whose install failed and that wasn't opened again since
pub data MapStanding : Type 0 where
  Level : MapStanding
  Behind : MapVersion → MapStanding

-- what is kept of a map: its disk, the generation that its file had when it was known last, the version that is shown
-- of it, or none, and its standing
pub record StoredMap (D : Type 0) : Type 0 where
  pub disk : D
  pub generation : ℕ
  pub version : Option MapVersion
  pub standing : MapStanding

-- what a file stands for that has this version, or none
abbrev pub stands_for : Option MapVersion → Stands
stands_for None = Nothing
stands_for (Some version) = Stored version

-- These bytes stand for the version that is shown, or, where the map is behind, for that or for the failed one.
abbrev pub StandsAs : MapStanding → Option MapVersion → List ℕ → Type 0
StandsAs Level version image = stands image ≡ stands_for version
StandsAs (Behind failed) version image = (stands image ≡ stands_for version) ⊎ (stands image ≡ Stored failed)

-- Whatever a crash may leave of a map's file now stands so.
abbrev pub IsStanding : {D : Type 0} → (D → Option History) → StoredMap D → Type 0
IsStanding history kept =
    (image : List ℕ) → MayLeave (history kept.disk) image → StandsAs kept.standing kept.version image

-- The generation of a level map is that of its file.
abbrev pub IsNumbered : {D : Type 0} → (D → Option History) → StoredMap D → Type 0
IsNumbered history kept = kept.standing ≡ Level → HasGeneration (history kept.disk) kept.generation

-- a publisher: its catalogue, what is kept of each map in their order, and the board
pub record Published (D B : Type 0) : Type 0 where
  pub catalogue : Catalogue
  pub maps : List (StoredMap D)
  pub board : B

-- P holds of a map, and nothing is said where there is no such map
abbrev pub OfMap : {D : Type 0} → ℕ → List (StoredMap D) → (StoredMap D → Type 0) → Type 0
OfMap number maps P = IfSome (slice_get maps number) P

-- P holds of what is kept of a map before and after a call
abbrev pub At : {D : Type 0} → ℕ → List (StoredMap D) → List (StoredMap D) → (StoredMap D → StoredMap D → Type 0)
    → Type 0
At number old new P = OfMap number old (λ before. OfMap number new (P before))

-- what is kept of every other map is the same after a call
pub record IsSameElsewhere {D : Type 0} (number : ℕ) (old new : List (StoredMap D)) : Type 0 where
  pub count : length new ≡ length old
  pub others : (other : ℕ) → other ≢ number → slice_get new other ≡ slice_get old other

-- the versions of maps, in their order
abbrev pub versions : {D : Type 0} → List (StoredMap D) → List (Option MapVersion)
versions maps = map (λ kept. kept.version) maps

-- the log shows exactly these versions, in the order of their maps
abbrev pub Shows : Log → List (Option MapVersion) → Type 0
Shows log versions = (number : ℕ) → shown number log ≡ slice_index_or versions number None
