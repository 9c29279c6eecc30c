-- How a fetched version is installed: a map that is behind is opened again, and the version is offered, marked.
use Rattle.std.specs.Prelude.{◌≡◌, ◌⊎◌, ℕ, ◌+◌, Bool, false, Option, None, Some, Result, Ok, Err}
use Rattle.yp_version.specs.Versions.{MapVersion}
use Rattle.yp_board.specs.Logs.{shown}
use Rattle.yp_map_file.specs.declared.fault.SlotFault.{SlotFault}
use Rattle.yp_map_file.specs.declared.fault.SlotFault.TheVariants as slot
use Rattle.yp_publisher.specs.declared.install.InstallFault.{InstallFault}
use Rattle.yp_publisher.specs.declared.install.InstallFault.TheVariants as install
use Rattle.yp_publisher.specs.declared.install.Installed.{Installed}
use Rattle.yp_publisher.specs.declared.install.Origin.TheVariants.{Fetched}
use Rattle.yp_publisher.specs.Standing.{Published, OfMap}
use Rattle.yp_publisher.specs.Keeping.{Keeping}
use Rattle.yp_publisher.specs.Installs.{OfferedVersion, offer, Installs, Refuses}
use Rattle.yp_publisher.specs.Opens.{Opens, StaysBehind}
use Rattle.yp_transfer.specs.declared.fault.XfrFault.{XfrFault}
use Rattle.yp_transfer.specs.declared.fault.XfrFault.TheVariants.{Age, File, Refused, NoMemory}
use Rattle.yp_transfer.specs.Requests.{TransferRequest}

-- a file that isn't opened again
abbrev pub of_slot : SlotFault → XfrFault
of_slot slot.NoMemory = NoMemory
of_slot slot.DiskFault = File
of_slot (slot.Damaged at rule) = File

-- A version that isn't installed. A level map isn't behind.
abbrev pub of_install : InstallFault → XfrFault
of_install install.Behind = File
of_install (install.Refused master) = Refused
of_install (install.Age shown offered) = Age shown offered
of_install install.GenerationsSpent = File
of_install install.DiskFault = File
of_install install.NoMemory = NoMemory

-- whether a version is secure: as it is marked, or without a mark as the version that is shown, and no where none is
abbrev pub marking : Option Bool → Option MapVersion → Bool
marking (Some secure) shown = secure
marking None (Some shown) = shown.secure
marking None None = false

-- a fetched version, as it is offered for a transfer
abbrev pub fetched_offer : {D B : Type 0} → Keeping D B → TransferRequest → MapVersion → Published D B
    → OfferedVersion
fetched_offer keeping request version published =
    offer (record version { secure = marking request.mark (shown request.number (keeping.log published.board)) })
    Fetched request.force

-- A fetched version was installed: nothing stood against it, and it is stored and shown.
pub record IsTaken {D B : Type 0} (keeping : Keeping D B) (number : ℕ) (offered : OfferedVersion)
    (installed : Installed)
    (old new : Published D B) : Type 0 where
  pub installs : Installs keeping number offered old new
  pub answer : OfMap number old.maps
      (λ kept. installed ≡ record { order = offered.version.order; generation = kept.generation + 1 })

-- A fetched version wasn't installed, for the first cause that applies.
pub record IsNotTaken {D B : Type 0} (keeping : Keeping D B) (number : ℕ) (offered : OfferedVersion) (fault : XfrFault)
    (old new : Published D B) : Type 0 where
  pub why : InstallFault
  pub fault_is : fault ≡ of_install why
  pub refuses : Refuses keeping number offered why old new

abbrev pub Offers : {D B : Type 0} → Keeping D B → ℕ → OfferedVersion → Result Installed XfrFault → Published D B
    → Published D B → Type 0
Offers keeping number offered (Ok installed) old new = IsTaken keeping number offered installed old new
Offers keeping number offered (Err fault) old new = IsNotTaken keeping number offered fault old new

-- The map was behind, and isn't opened. The result fixes why, since a file that its disk tells isn't damaged then.
pub record IsNotReopened {D B : Type 0} (keeping : Keeping D B) (number : ℕ) (result : Result Installed XfrFault)
    (old new : Published D B) : Type 0 where
  pub why : SlotFault
  pub fault_is : result ≡ Err (of_slot why)
  pub stays : StaysBehind keeping number why old new

-- The map is level, where it was behind by opening its file again, and then the version is offered. What its file stood
-- for fixes what is shown between.
pub record OpensAndOffers {D B : Type 0} (keeping : Keeping D B) (request : TransferRequest) (version : MapVersion)
    (result : Result Installed XfrFault) (old new : Published D B) : Type 0 where
  pub middle : Published D B
  pub opens : Opens keeping request.number old middle
  pub offers : Offers keeping request.number (fetched_offer keeping request version middle) result middle new

-- A fetched version was installed, or wasn't.
abbrev pub InstallsFetched : {D B : Type 0} → Keeping D B → TransferRequest → MapVersion → Result Installed XfrFault
    → Published D B → Published D B → Type 0
InstallsFetched keeping request version result old new =
    IsNotReopened keeping request.number result old new
    ⊎ OpensAndOffers keeping request version result old new
