-- An install or a refusal behind the opening of a file, under the lock.
use Rattle.std.specs.Prelude.{ℕ}
use Rattle.yp_version.specs.Versions.{MapVersion}
use Rattle.yp_board.specs.Logs.{Log}
use Rattle.yp_publisher.specs.declared.install.Origin.{Origin}
use Rattle.yp_publisher.specs.Standing.{Published}
use Rattle.yp_publisher.specs.Keeping.{Keeping}
use Rattle.yp_publisher.specs.Installs.{OfferedVersion, Installs, Refuses}
use Rattle.yp_publisher.specs.Opens.{Opens, StaysBehind}
use Rattle.yp_publisher.specs.declared.sharing.locked.ShareFault.{ShareFault}
use Rattle.yp_publisher.specs.declared.sharing.locked.ShareFault.TheVariants.{Shut, Unfit, Untold}
use Rattle.yp_publisher.specs.sharing.Shares.{offer_behind}

-- ---- what an install does to the maps

-- a version that is to be installed of a map, and where it comes from
pub record Candidate : Type 0 where
  pub number : ℕ
  pub version : MapVersion
  pub origin : Origin

abbrev pub candidate : ℕ → MapVersion → Origin → Candidate
candidate number version origin = record { number = number; version = version; origin = origin }

-- it, as it is offered behind a log
abbrev pub offered_behind : Candidate → Log → OfferedVersion
offered_behind candidate log = offer_behind candidate.number candidate.version candidate.origin log

-- The map is level, where it was behind by opening its file again, and then the version is installed.
pub record OpensAndInstalls {D B : Type 0} (keeping : Keeping D B) (candidate : Candidate) (old new : Published D B)
    : Type 0 where
  pub middle : Published D B
  pub opens : Opens keeping candidate.number old middle
  pub installs : Installs keeping candidate.number (offered_behind candidate (keeping.log middle.board)) middle new

-- An offered version was refused, for this fault.
abbrev pub OfferIsRefused : {D B : Type 0} → Keeping D B → ℕ → OfferedVersion → ShareFault → Published D B
    → Published D B → Type 0
OfferIsRefused keeping number offered (Unfit fault) old new = Refuses keeping number offered fault old new
OfferIsRefused keeping number offered _ old new = ⊥

-- The map is level, where it was behind by opening its file again, and then the version is refused, for this fault.
pub record OpensAndRefuses {D B : Type 0} (keeping : Keeping D B) (candidate : Candidate) (fault : ShareFault)
    (old new : Published D B) : Type 0 where
  pub middle : Published D B
  pub opens : Opens keeping candidate.number old middle
  pub refuses : OfferIsRefused keeping candidate.number (offered_behind candidate (keeping.log middle.board)) fault
      middle new

-- The version isn't installed, for this fault: the map was behind, and its file isn't opened; or the version is
-- refused.
abbrev pub IsNotInstalled : {D B : Type 0} → Keeping D B → Candidate → ShareFault → Published D B → Published D B
    → Type 0
IsNotInstalled keeping candidate (Shut fault) old new = StaysBehind keeping candidate.number fault old new
IsNotInstalled keeping candidate (Unfit fault) old new = OpensAndRefuses keeping candidate (Unfit fault) old new
IsNotInstalled keeping candidate Untold old new = ⊥
