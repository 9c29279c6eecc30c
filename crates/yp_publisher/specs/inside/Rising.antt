-- Steps of a log, one following the other.
use Rattle.std.specs.Prelude.{◌≡◌, ◌⊎◌, ◌≤◌, ℕ, List, [], ◌∷◌, length}
use Rattle.std.specs.Prelude.{⊤}
use Rattle.std.specs.List.{All}
use Rattle.yp_version.specs.Versions.{MapVersion}
use Rattle.yp_publisher.specs.Standing.{Level}
use Rattle.yp_publisher.specs.Rising.{orders, PublisherState, InstallsNewer, Reopens}

-- an install that isn't forced, or a reopen, of some map
abbrev pub Steps : PublisherState → PublisherState → Type 0
Steps old new =
    ((number : ℕ) × (version : MapVersion) × InstallsNewer number version old new)
    ⊎ ((number : ℕ) × Reopens number old new)

-- each moment follows from the one before it
abbrev pub Follow : PublisherState → List PublisherState → Type 0
Follow first [] = ⊤
Follow first (next ∷ moments) = Steps first next × Follow next moments

-- all maps are level, and the log has at most one version of each
pub record IsStart (moment : PublisherState) : Type 0 where
  pub level : All (λ standing. standing ≡ Level) moment.standings
  pub one : (number : ℕ) → length (orders number moment.log) ≤ 1
