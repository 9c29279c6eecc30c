-- Where each version of a log came from, and what a crash leaves of each map since a moment.
use Rattle.std.specs.Prelude.{◌≡◌, ◌⊎◌, ℕ, List, slice_get, Contains, Option, IfSome, IsSome, false}
use Rattle.std.specs.Option.{option_map_or}
use Rattle.yp_io.specs.Disk.{History}
use Rattle.yp_version.specs.Versions.{MapVersion}
use Rattle.yp_board.specs.Logs.{Log, shown}
use Rattle.yp_publisher.specs.Standing.{StoredMap, OfMap}
use Rattle.yp_publisher.specs.Grown.{Making, GrowsBy, IsShownOrMade, LeavesByFronts, IsBehindMade, AreTold}
use Rattle.yp_publisher.specs.sharing.Sources.{Building, IsBuiltBy}
use Rattle.yp_publisher.specs.sharing.Failures.{disks_of}

-- versions that were fetched, in turn
abbrev pub FetchLog : Type 0
FetchLog = List MapVersion

-- A version was built of what was shown at some moment up to a log, behind what that shows of its map; or it is one of
-- those that were fetched, marked as what the log shows.
abbrev pub IsNewBehind : Building → FetchLog → Making
IsNewBehind Is fetches number log version =
    IsBuiltBy Is log number (shown number log) version
    ⊎ ((fetched : MapVersion) × Contains fetches fetched
    × (version ≡ record fetched { secure = option_map_or (λ last. last.secure) (shown number log) false }))

-- Maps that stand so came of those whose disks told these histories, while this was shown. Each version that was shown
-- since then was new behind the log before it. Each moment has a front of the log, which is a front of that of the next
-- moment: a crash leaves then of each map bytes that stand for what that front shows of it, or for a version that is
-- new behind it. Maps that are behind are behind a version that is new.
pub record Traces {D : Type 0} (history : D → Option History) (Is : Making) (first log : Log)
    (histories : List (Option History)) (maps : List (StoredMap D)) : Type 0 where
  pub grown : AreTold history (disks_of maps) → GrowsBy Is first log
  pub any_moment : (number : ℕ) → IfSome (slice_get histories number) (λ before. OfMap number maps
      (λ kept. LeavesByFronts (IsShownOrMade Is number) before (history kept.disk) first log))
  pub behind : (number : ℕ) → OfMap number maps
      (λ kept. IsSome (history kept.disk) → IsBehindMade Is number log kept.standing)
