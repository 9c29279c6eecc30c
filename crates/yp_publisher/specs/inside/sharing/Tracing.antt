-- What is known of a version that is installed, and where a log came from, map by map.
use Rattle.std.specs.Prelude.{◌≡◌, ℕ, List, ◌++◌, slice_get, Contains, Option, Some, None, IfSome, IsSome, ⊤}
use Rattle.yp_io.specs.Disk.{History}
use Rattle.yp_version.specs.Versions.{MapVersion}
use Rattle.yp_board.specs.Logs.{Log}
use Rattle.yp_board.specs.Views.{IsFront}
use Rattle.yp_publisher.specs.declared.install.Origin.{Origin}
use Rattle.yp_publisher.specs.declared.install.Origin.TheVariants.{Built, Fetched}
use Rattle.yp_publisher.specs.Standing.{StoredMap, Published, OfMap}
use Rattle.yp_publisher.specs.Keeping.{Keeping}
use Rattle.yp_publisher.specs.Rising.{PublisherState}
use Rattle.yp_publisher.specs.Grown.{Making, GrowsBy, IsShownOrMade, LeavesByFronts, IsBehindMade}
use Rattle.yp_publisher.specs.inside.Rising.{IsStart}
use Rattle.yp_publisher.specs.inside.sharing.Moments.{MapsTell}
use Rattle.yp_publisher.specs.sharing.Sources.{Building}
use Rattle.yp_publisher.specs.sharing.Tracing.{FetchLog, IsNewBehind}

-- a log is the other one, with more behind it or nothing
abbrev pub IsBeginning : FetchLog → FetchLog → Type 0
IsBeginning front log = (more : FetchLog) × (log ≡ front ++ more)

-- A version that is installed as a fetched one is one of those that are known to be fetched.
abbrev pub IsKnownFetched : MapVersion → Origin → Option FetchLog → Type 0
IsKnownFetched version Built known = ⊤
IsKnownFetched version Fetched None = ⊥
IsKnownFetched version Fetched (Some fetches) = Contains fetches version

-- As `Traces`, of maps that tell it one by one. The log begins with the first one.
pub record IsTraced {D : Type 0} (history : D → Option History) (Is : Making) (first log : Log)
    (histories : List (Option History)) (maps : List (StoredMap D)) : Type 0 where
  pub begins : IsFront first log
  pub grown : MapsTell history maps → GrowsBy Is first log
  pub any_moment : (number : ℕ) → IfSome (slice_get histories number) (λ before. OfMap number maps
      (λ kept. LeavesByFronts (IsShownOrMade Is number) before (history kept.disk) first log))
  pub behind : (number : ℕ) → OfMap number maps
      (λ kept. IsSome (history kept.disk) → IsBehindMade Is number log kept.standing)

-- From a start that is so of where a publisher stands.
abbrev pub IsTracedAt : {D B : Type 0} → Keeping D B → Building → FetchLog → PublisherState → List (Option History)
    → Published D B → Type 0
IsTracedAt keeping Is fetches first histories published =
    IsStart first → IsTraced keeping.history (IsNewBehind Is fetches) first.log (keeping.log published.board) histories
    published.maps
