-- The moments at which a publisher stands under its lock, from the first one on.
use Rattle.std.specs.Prelude.{List, [], ◌∷◌, ◌++◌, ℕ, Option, IsSome}
use Rattle.yp_io.specs.Disk.{History}
use Rattle.yp_publisher.specs.Standing.{StoredMap, Published, OfMap}
use Rattle.yp_publisher.specs.Keeping.{Keeping}
use Rattle.yp_publisher.specs.Rising.{PublisherState, publisher_state}
use Rattle.yp_publisher.specs.inside.Rising.{Follow}

-- Installs that aren't forced and reopens lead from a moment to another.
pub record LeadsTo (first last : PublisherState) : Type 0 where
  pub moments : List PublisherState
  pub follow : Follow first (moments ++ last ∷ [])

-- the disk of each map tells what a crash may leave of it
abbrev pub MapsTell : {D : Type 0} → (D → Option History) → List (StoredMap D) → Type 0
MapsTell history maps = (number : ℕ) → OfMap number maps (λ kept. IsSome (history kept.disk))

-- Where that is so of each map, they lead from a first moment to where a publisher stands.
abbrev pub IsLed : {D B : Type 0} → Keeping D B → PublisherState → Published D B → Type 0
IsLed keeping first published =
    MapsTell keeping.history published.maps → LeadsTo first (publisher_state keeping.log published)
