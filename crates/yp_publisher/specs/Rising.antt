-- Logs in which the orders of each map rise, and what installs and reopens add to a log.
use Rattle.std.specs.Prelude.{◌≡◌, ◌⊎◌, ◌<◌, ℕ, ◌==◌, List, [], ◌∷◌, ◌++◌, map, filter, slice_set}
use Rattle.std.specs.Prelude.{slice_get, Some, IfSome}
use Rattle.std.specs.List.Sorted.{IsStrictlyIncreasing}
use Rattle.yp_version.specs.Versions.{MapVersion}
use Rattle.yp_board.specs.Logs.{Log, shown}
use Rattle.yp_publisher.specs.Standing.{MapStanding, Level, Behind, Published}

-- the orders of a map's versions in a log, in turn
abbrev pub orders : ℕ → Log → List ℕ
orders number log = map (λ entry. entry.1.order) (filter (λ entry. entry.0 == number) log)

-- a log rises where the orders of each map strictly rise
abbrev pub IsRisingLog : Log → Type 0
IsRisingLog log = (number : ℕ) → IsStrictlyIncreasing (orders number log)

-- what is shown, and how each map stands
pub record PublisherState : Type 0 where
  pub log : Log
  pub standings : List MapStanding

abbrev pub publisher_state : {D B : Type 0} → (B → Log) → Published D B → PublisherState
publisher_state log published = record {
  log = log published.board;
  standings =
      map (λ kept. kept.standing) published.maps;
}

-- the order of a version is over that of the one that is shown of its map, if one is
abbrev pub IsNewer : ℕ → MapVersion → Log → Type 0
IsNewer number version log = IfSome (shown number log) (λ last. last.order < version.order)

-- a version of a map is shown
abbrev pub with_shown : ℕ → MapVersion → Log → Log
with_shown number version log = log ++ (number, version) ∷ []

-- a map stands so
abbrev pub with_standing : ℕ → MapStanding → PublisherState → PublisherState
with_standing number standing moment = record moment { standings = slice_set moment.standings number standing }

-- A version of a level map is shown, or the map is behind it.
abbrev pub Stores : ℕ → MapVersion → PublisherState → PublisherState → Type 0
Stores number version old new =
    (slice_get old.standings number ≡ Some Level)
    × ((new ≡ record old { log = with_shown number version old.log })
    ⊎ (new ≡ with_standing number (Behind version) old))

-- An install that isn't forced: nothing changed; or the version is newer, and is shown, or its map is behind it.
abbrev pub InstallsNewer : ℕ → MapVersion → PublisherState → PublisherState → Type 0
InstallsNewer number version old new =
    (new ≡ old)
    ⊎ (IsNewer number version old.log × Stores number version old new)

-- A reopen: nothing changed; or the map was behind a version and is level, and that version may be shown.
abbrev pub Reopens : ℕ → PublisherState → PublisherState → Type 0
Reopens number old new =
    (new ≡ old)
    ⊎ ((failed : MapVersion) × (slice_get old.standings number ≡ Some (Behind failed))
    × ((new ≡ with_standing number Level old)
    ⊎ (new ≡ with_standing number Level (record old { log = with_shown number failed old.log }))))
