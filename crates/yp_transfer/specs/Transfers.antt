-- A transfer: what is fetched of a map is installed.
use Rattle.std.specs.Prelude.{◌≡◌, ◌≤◌, min, option_map, IfSome, slice_get, Result, Ok, Err}
use Rattle.yp_io.specs.Counts.{last_count}
use Rattle.yp_io.specs.Dials.{Dialing, DialTells, wires_told}
use Rattle.yp_board.specs.Catalogues.{Name}
use Rattle.yp_board.specs.Logs.{shown}
use Rattle.yp_publisher.specs.declared.install.Installed.{Installed}
use Rattle.yp_publisher.specs.Standing.{Published}
use Rattle.yp_publisher.specs.Keeping.{Keeping}
use Rattle.yp_transfer.specs.declared.fault.XfrFault.{XfrFault}
use Rattle.yp_transfer.specs.Requests.{TransferRequest}
use Rattle.yp_transfer.specs.Fetching.{Wanted, wanted_of, FetchOutcome}
use Rattle.yp_transfer.specs.HostTable.{HostList}
use Rattle.yp_transfer.specs.Dialing.{FetchesFrom}
use Rattle.yp_transfer.specs.Installing.{InstallsFetched}
use Rattle.yp_transfer.specs.declared.calling_back.Asker.{Asker}
use Rattle.yp_transfer.specs.CallBack.{outcome_stat, wants_call, CallsBack}

-- the map by its name in the catalogue, and the order of the version that is shown of it
abbrev pub wanted_at : {D B : Type 0} → Keeping D B → TransferRequest → Name → Published D B → Wanted
wanted_at keeping request name published =
    wanted_of name.0 name.1
    (option_map (λ version. version.order) (shown request.number (keeping.log published.board))) request.force

-- What was fetched is installed; where nothing was, the maps stay.
abbrev pub InstallsOutcome : {D B : Type 0} → Keeping D B → TransferRequest → FetchOutcome → Result Installed XfrFault
    → Published D B → Published D B → Type 0
InstallsOutcome keeping request (Ok version) result old new =
    InstallsFetched keeping request version result old new
InstallsOutcome keeping request (Err fault) result old new = (result ≡ Err fault) × (new ≡ old)

-- what a transfer changes, at one moment: what the dial tells, and the maps
pub record TransferState (T D B : Type 0) : Type 0 where
  pub dial : T
  pub published : Published D B

abbrev pub transfer_state : {T D B : Type 0} → T → Published D B → TransferState T D B
transfer_state dial published = record { dial = dial; published = published }

-- The map was fetched from the source, the wire was given back, and then what came of it was installed.
pub record Transfers {D B : Type 0} (keeping : Keeping D B) (hosts : HostList) (request : TransferRequest)
    (result : Result Installed XfrFault) (old new : TransferState Dialing D B) : Type 0 where
  pub outcome : FetchOutcome
  pub fetches : IfSome (slice_get old.published.catalogue.maps request.number)
      (λ name. FetchesFrom hosts request.source (wanted_at keeping request name old.published) outcome old.dial new.dial)
  pub installs : InstallsOutcome keeping request outcome result old.published new.published

-- A map was transferred for a caller, and then, from this moment of the dial on, the caller was told what came of it.
-- But for its faults the dial then tells the wires of the end and the letters of the start.
pub record TransfersFor {D B : Type 0} (keeping : Keeping D B) (hosts : HostList) (request : TransferRequest)
    (asker : Asker) (old new : TransferState DialTells D B) : Type 0 where
  pub result : Result Installed XfrFault
  pub fetched : DialTells
  pub transfers : Transfers keeping hosts request result (transfer_state (wires_told old.dial) old.published)
      (transfer_state (wires_told fetched) new.published)
  pub unposted : fetched.letters ≡ old.dial.letters
  pub never_falls : min old.dial.faults last_count ≤ fetched.faults
  pub called_back : CallsBack (wants_call asker) asker (outcome_stat result) fetched new.dial
