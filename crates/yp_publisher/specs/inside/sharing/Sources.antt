-- Where a version comes from, map by map.
use Rattle.std.specs.Prelude.{◌≡◌, ℕ, List, Option, None, false, ⊤}
use Rattle.std.specs.Option.{option_map_or}
use Rattle.yp_version.specs.Versions.{MapVersion}
use Rattle.yp_board.specs.Logs.{Log}
use Rattle.yp_board.specs.Views.{IsFront}
use Rattle.yp_publisher.specs.declared.install.Origin.{Origin}
use Rattle.yp_publisher.specs.declared.install.Origin.TheVariants.{Built, Fetched}
use Rattle.yp_publisher.specs.Standing.{Published}
use Rattle.yp_publisher.specs.Keeping.{Keeping}
use Rattle.yp_publisher.specs.Installs.{offer, not_following}
use Rattle.yp_publisher.specs.Rising.{PublisherState, publisher_state}
use Rattle.yp_publisher.specs.inside.Rising.{IsStart}
use Rattle.yp_publisher.specs.inside.sharing.Moments.{MapsTell}
use Rattle.yp_publisher.specs.sharing.Sources.{Building, IsSourced}

-- ---- what is installed

-- a version as it is marked behind the last one of its map
abbrev pub marked_behind : MapVersion → Option MapVersion → MapVersion
marked_behind version last = record version { secure = option_map_or (λ shown. shown.secure) last false }

-- A version that is installed of a map as a built one was built of what was shown at a moment up to a log, behind
-- whatever it follows.
abbrev pub IsBuiltThere : Building → Log → ℕ → List ℕ → MapVersion → Origin → Type 0
IsBuiltThere Is log number own version Built =
    (at : Log) × IsFront at log × ((last : Option MapVersion)
    → not_following own (offer (marked_behind version last) Built false) last ≡ None
    → Is at number last (marked_behind version last))
IsBuiltThere Is log number own version Fetched = ⊤

-- how many fetched versions an install takes
abbrev pub fetched_in : Origin → ℕ
fetched_in Built = 0
fetched_in Fetched = 1

-- ---- what that comes to

-- From a start that is so of where a publisher stands, where the disk of each map tells what a crash may leave of it.
abbrev pub IsSourcedAt : {D B : Type 0} → Keeping D B → Building → PublisherState → Published D B → (made fetched : ℕ)
    → Type 0
IsSourcedAt keeping Is first published made fetched =
    IsStart first → MapsTell keeping.history published.maps
    → IsSourced Is first (publisher_state keeping.log published) made fetched
