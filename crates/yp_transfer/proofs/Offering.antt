-- A version that is offered once its map is level.
use Rattle.std.proofs.Common.{◌≡◌, ◌+◌, Result, Ok, Err, subst, inr}
use Rattle.yp_version.specs.Versions.{MapVersion}
use Rattle.yp_board.specs.Logs.{shown}
use Rattle.yp_publisher.specs.declared.install.InstallFault.{InstallFault}
use Rattle.yp_publisher.specs.declared.install.Installed.{Installed}
use Rattle.yp_publisher.specs.declared.install.Origin.TheVariants.{Fetched}
use Rattle.yp_publisher.specs.Standing.{Published, OfMap}
use Rattle.yp_publisher.specs.Keeping.{Keeping}
use Rattle.yp_publisher.specs.Installs.{offer, Installs, Refuses}
use Rattle.yp_publisher.specs.Opens.{Opens}
use Rattle.yp_transfer.specs.declared.fault.XfrFault.{XfrFault}
use Rattle.yp_transfer.specs.Requests.{TransferRequest}
use Rattle.yp_transfer.specs.Installing.{of_install, marking, Offers, InstallsFetched}

module _ {D B : Type 0} (keeping : Keeping D B) (request : TransferRequest) (version marked : MapVersion)
    (old middle new : Published D B) (opens : Opens keeping request.number old middle)
    (is : marked
    ≡ record version { secure = marking request.mark (shown request.number (keeping.log middle.board)) }) where
  taken : (result : Result Installed XfrFault)
      → Offers keeping request.number (offer marked Fetched request.force) result middle new
      → InstallsFetched keeping request version result old new
  taken result offers = inr (record {
    middle = middle;
    opens = opens;
    offers = subst (λ (v : MapVersion). Offers keeping request.number (offer v Fetched request.force) result middle new)
        is offers;
  })

  pub is_taken : (installed : Installed)
      → Installs keeping request.number (offer marked Fetched request.force) middle new
      → OfMap request.number middle.maps
      (λ kept. installed ≡ record { order = marked.order; generation = kept.generation + 1 })
      → InstallsFetched keeping request version (Ok installed) old new
  is_taken installed installs answer = taken (Ok installed) (record { installs = installs; answer = answer })

  pub is_not_taken : (why : InstallFault) (fault : XfrFault) → fault ≡ of_install why
      → Refuses keeping request.number (offer marked Fetched request.force) why middle new
      → InstallsFetched keeping request version (Err fault) old new
  is_not_taken why fault fault_is refuses =
      taken (Err fault) (record { why = why; fault_is = fault_is; refuses = refuses })
