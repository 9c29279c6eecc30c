-- What is fetched by the bytes of a wire, as a law has it.
use Rattle.std.proofs.Common.{◌≡◌, ◌⊎◌, Result, Ok, Err, inl, inr}
use Rattle.std.specs.Prelude.{IfOk}
use Rattle.yp_version.specs.Versions.{MapVersion}
use Rattle.yp_client.specs.States.{ClientState}
use Rattle.yp_transfer.specs.declared.fault.XfrFault.{XfrFault}
use Rattle.yp_transfer.specs.declared.fault.XfrFault.TheVariants.{NoMemory}
use Rattle.yp_transfer.specs.Fetching.{Wanted, FetchOutcome}
use Rattle.yp_transfer.specs.Fetched.{StreamPlace, Fetched, FailsByWire}
use Rattle.yp_client_tests.specs.Outcomes.{IsUnlessFailed}

module _ (wanted : Wanted) (place : StreamPlace) (old new : ClientState) where
  pub where_ok : (outcome : FetchOutcome) (P : MapVersion → Type 0)
      → Fetched wanted place outcome ⊎ (FailsByWire outcome old new ⊎ (outcome ≡ Err NoMemory))
      → ((version : MapVersion) → Fetched wanted place (Ok version) → P version) → IfOk outcome P
  where_ok (Ok version) P (inl fetched) law = law version fetched
  where_ok (Ok version) P (inr (inl fails)) law = absurd (let is = fails.0 in cc)
  where_ok (Ok version) P (inr (inr memory)) law = absurd cc
  where_ok (Err fault) P comes law = tt

  pub unless_failed : (outcome : FetchOutcome) (version : MapVersion)
      → Fetched wanted place outcome ⊎ (FailsByWire outcome old new ⊎ (outcome ≡ Err NoMemory))
      → (Fetched wanted place outcome → outcome ≡ Ok version) → IsUnlessFailed version outcome old new
  unless_failed outcome version (inl fetched) law = inl (law fetched)
  unless_failed outcome version (inr others) law = inr others
