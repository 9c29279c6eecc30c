-- What a site says of its builds, and an order that was overtaken.
use Rattle.std.specs.Prelude.{◌<◌, ◌≤◌, ◌+◌, ℕ, List, Option}
use Rattle.std.specs.Option.{option_map_or}
use Rattle.yp_version.specs.Versions.{MapVersion}
use Rattle.yp_board.specs.Catalogues.{Catalogue}
use Rattle.yp_board.specs.Logs.{Log, shown}
use Rattle.yp_texts.specs.Builds.{order_max}
use Rattle.yp_publisher.specs.sharing.Sources.{Building}
use Rattle.yp_host.specs.workers.Makings.{IsBuiltAsNamed}

-- Each version that was built so is what a site says of it.
abbrev pub SiteBuilds : (List ℕ → Option (List ℕ)) → Catalogue → Building → Type 0
SiteBuilds text served Is =
    (at : Log) (number : ℕ) (last : Option MapVersion) (version : MapVersion)
    → IsBuiltAsNamed text served at number last version → Is at number last version

-- how high the order of what is shown of a map is, and 0 where nothing is
abbrev pub height : ℕ → Log → ℕ
height number log = option_map_or (λ version. version.order + 1) (shown number log) 0

-- A version of a map of a higher order was shown meanwhile, while the order wasn't spent.
abbrev pub IsOvertaken : ℕ → Log → Log → Type 0
IsOvertaken number old new = (height number old < height number new) × (height number old ≤ order_max)
