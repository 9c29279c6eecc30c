-- What holds of logs and versions, whatever the publisher.
use Rattle.std.specs.Prelude.{◌≡◌, List, ◌∷◌, Option}
use Rattle.std.specs.List.{All, AllByRecursion}
use Rattle.yp_version.specs.Versions.{MapVersion}
use Rattle.yp_board.specs.Logs.{starts}
use Rattle.yp_publisher.specs.Standing.{MapStanding, Level, Shows}
use Rattle.yp_publisher.specs.Rising.{PublisherState, IsRisingLog}
use Rattle.yp_publisher.specs.inside.Rising.{Follow, IsStart}

-- From maps that are all level, and a log with at most one version of each, installs that aren't forced and reopens
-- leave a log that rises.
abbrev pub LogRises : Type 0
LogRises = (first : PublisherState) (moments : List PublisherState) → IsStart first → Follow first moments
    → AllByRecursion (λ moment. IsRisingLog moment.log) (first ∷ moments)

-- Publishers of level maps start so: a log that begins with versions has at most one of each map.
abbrev pub BeginningIsStart : Type 0
BeginningIsStart = (versions : List (Option MapVersion)) (standings : List MapStanding)
    → All (λ standing. standing ≡ Level) standings
    → IsStart (record { log = starts 0 versions; standings = standings })

-- the log that begins with versions shows exactly them
abbrev pub StartsAreShown : Type 0
StartsAreShown = (versions : List (Option MapVersion)) → Shows (starts 0 versions) versions
