-- How published maps pass from one moment to a later one by a making or by a transfer.
use Rattle.std.proofs.Common.{◌≡◌, inl, inr, false, Result, Ok, Err, ℕ, ◌<◌, length, refl}
use Rattle.yp_messages.specs.declared.transfer.XfrStat.{XfrStat}
use Rattle.yp_version.specs.Versions.{MapVersion}
use Rattle.yp_publisher.specs.Standing.{Level, Published, OfMap}
use Rattle.yp_publisher.specs.Keeping.{Keeping}
use Rattle.yp_publisher.specs.Installs.{OfferedVersion}
use Rattle.yp_publisher.specs.declared.install.Installed.{Installed}
use Rattle.yp_publisher.specs.Grown.{Making}
use Rattle.yp_transfer.specs.declared.fault.XfrFault.{XfrFault}
use Rattle.yp_transfer.specs.Installing as fetching
use Rattle.yp_host.specs.Making.{OffersBuilt}
use Rattle.yp_publisher.proofs.Passing.{Respects, Sound, Passes, offers_on}

module _ {D B : Type 0} (keeping : Keeping D B) (Is : Making) (same : Respects Is) where
  -- a version that was built and is offered
  pub offered_on : (number : ℕ) (version : MapVersion) (stat : XfrStat) (old new : Published D B) → number < length old.maps → Sound keeping Is same old
      → OfMap number old.maps (λ kept. kept.standing ≡ Level) → Is number (keeping.log old.board) version → OffersBuilt keeping number version stat old new → Sound keeping Is same new × Passes keeping Is same old new
  offered_on number version stat old new within sound level made step = elim step [
    | inl ok ↦ offers_on keeping Is same number version old new within sound level made ok.1.upheld ok.1.meanwhile (ok.1.rising refl)
    | inr failed ↦ offers_on keeping Is same number version old new within sound level made failed.refuses.upheld failed.refuses.meanwhile (failed.refuses.rising refl)
  ]

  -- a version that was fetched and is offered, not forced
  pub fetched_on : (number : ℕ) (offered : OfferedVersion) (result : Result Installed XfrFault) (old new : Published D B) → number < length old.maps → Sound keeping Is same old
      → OfMap number old.maps (λ kept. kept.standing ≡ Level) → offered.force ≡ false → Is number (keeping.log old.board) offered.version
      → fetching.Offers keeping number offered result old new → Sound keeping Is same new × Passes keeping Is same old new
  fetched_on number offered (Ok installed) old new within sound level unforced given step =
      offers_on keeping Is same number offered.version old new within sound level given step.installs.upheld step.installs.meanwhile (step.installs.rising unforced)
  fetched_on number offered (Err fault) old new within sound level unforced given step =
      offers_on keeping Is same number offered.version old new within sound level given step.refuses.upheld step.refuses.meanwhile (step.refuses.rising unforced)
