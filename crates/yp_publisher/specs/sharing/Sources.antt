-- Where versions come from: those that were shown since a moment, and those that maps are behind then.
use Rattle.std.specs.Prelude.{◌≡◌, ◌⊎◌, ℕ, suc, ◌+◌, ◌≤◌, List, [], ◌∷◌, ◌++◌, Option}
use Rattle.yp_version.specs.Versions.{MapVersion}
use Rattle.yp_board.specs.Logs.{Log, shown}
use Rattle.yp_board.specs.Views.{IsFront}
use Rattle.yp_publisher.specs.Standing.{MapStanding, Level, Behind}
use Rattle.yp_publisher.specs.Rising.{PublisherState}

-- what it is that a version of the map with a number was built of what a log shows, behind the last one of it, or
-- behind none
abbrev pub Building : Type 1
Building = Log → ℕ → Option MapVersion → MapVersion → Type 0

-- A version was built of what was shown at some moment up to a log.
abbrev pub IsBuiltBy : Building → Log → ℕ → Option MapVersion → MapVersion → Type 0
IsBuiltBy Is log number last version = (at : Log) × IsFront at log × Is at number last version

-- ---- what that comes to

-- Of entries that came behind a log, one after another, so many were built, each behind what was then shown of its map,
-- and so many others weren't.
abbrev pub AreFrom : Building → Log → Log → (built others : ℕ) → Type 0
AreFrom Is log [] built others = (built ≡ 0) × (others ≡ 0)
AreFrom Is log (entry ∷ more) built others =
    (IsBuiltBy Is log entry.0 (shown entry.0 log) entry.1
    × ((fewer : ℕ) × (built ≡ suc fewer) × AreFrom Is (log ++ entry ∷ []) more fewer others))
    ⊎ ((fewer : ℕ) × (others ≡ suc fewer) × AreFrom Is (log ++ entry ∷ []) more built fewer)

-- At most this many of these maps, whose numbers count from this one on, are behind a version that wasn't built for
-- what the log shows of them.
abbrev pub AreBehind : Building → Log → ℕ → List MapStanding → (others : ℕ) → Type 0
AreBehind Is log number [] others = others ≡ 0
AreBehind Is log number (Level ∷ more) others = AreBehind Is log (suc number) more others
AreBehind Is log number (Behind failed ∷ more) others =
    (IsBuiltBy Is log number (shown number log) failed × AreBehind Is log (suc number) more others)
    ⊎ ((fewer : ℕ) × (others ≡ suc fewer) × AreBehind Is log (suc number) more fewer)

-- Since a first moment at least `made` built versions were shown. The versions that were shown and weren't built,
-- together with those that maps are behind and that weren't built, are at most `fetched`.
pub record IsSourced (Is : Building) (first now : PublisherState) (made fetched : ℕ) : Type 0 where
  pub more : Log
  pub grown : now.log ≡ first.log ++ more
  pub built : ℕ
  pub others : ℕ
  pub left : ℕ
  pub entries : AreFrom Is first.log more built others
  pub behind : AreBehind Is now.log 0 now.standings left
  pub least : made ≤ built
  pub most : others + left ≤ fetched
