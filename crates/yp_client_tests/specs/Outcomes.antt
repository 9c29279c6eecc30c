-- What a fetch comes to.
use Rattle.std.specs.Prelude.{◌≡◌, ◌⊎◌, Ok, Err}
use Rattle.yp_version.specs.Versions.{MapVersion}
use Rattle.yp_client.specs.States.{ClientState}
use Rattle.yp_transfer.specs.declared.fault.XfrFault.TheVariants.{NoMemory}
use Rattle.yp_transfer.specs.Fetching.{FetchOutcome}
use Rattle.yp_transfer.specs.Fetched.{FailsByWire}

-- It is this version, unless the wire failed or memory ran out.
abbrev pub IsUnlessFailed : MapVersion → FetchOutcome → ClientState → ClientState → Type 0
IsUnlessFailed version outcome old new =
    (outcome ≡ Ok version) ⊎ FailsByWire outcome old new ⊎ (outcome ≡ Err NoMemory)
