-- What a transfer adds to a log, and that it keeps the catalogue.
use Rattle.std.proofs.Common.{◌≡◌, inl, inr, ℕ, ◌<◌, false, Result, Ok, Err, length, refl, ap, ◌∙◌, ◌++◌, append_assoc}
use Rattle.yp_version.specs.Versions.{MapVersion}
use Rattle.yp_board.specs.Logs.{Log}
use Rattle.yp_board.specs.Views.{IsFront}
use Rattle.yp_publisher.specs.declared.install.Installed.{Installed}
use Rattle.yp_publisher.specs.Standing.{Published}
use Rattle.yp_publisher.specs.Keeping.{Keeping}
use Rattle.yp_publisher.specs.Installs.{OfferedVersion}
use Rattle.yp_publisher.specs.Rising as rising
use Rattle.yp_publisher.specs.Rising.{InstallsNewer}
use Rattle.yp_answer.specs.Transfer.{Taken}
use Rattle.yp_transfer.specs.declared.fault.XfrFault.{XfrFault}
use Rattle.yp_transfer.specs.Fetching.{FetchOutcome}
use Rattle.yp_transfer.specs.Installing.{Offers, fetched_offer}
use Rattle.yp_transfer.specs.Transfers.{InstallsOutcome}
use Rattle.yp_host.specs.Transferring.{request_for}
use Rattle.yp_publisher.proofs.Growing.{front_same, front_more, opened_front}

-- the catalogue stays, and the log grows
pub record KeepsAndGrows {D B : Type 0} (keeping : Keeping D B) (old new : Published D B) : Type 0 where
  pub catalogue : new.catalogue ≡ old.catalogue
  pub grown : IsFront (keeping.log old.board) (keeping.log new.board)

module _ {D B : Type 0} (keeping : Keeping D B) where
  grows_nowhere : (old new : Published D B) → new ≡ old → KeepsAndGrows keeping old new
  grows_nowhere old new e = record {
    catalogue = ap (λ (p : Published D B). p.catalogue) e;
    grown = front_same keeping.log old.board new.board (ap (λ (p : Published D B). p.board) e);
  }

  grows_twice : (old middle new : Published D B) → KeepsAndGrows keeping old middle → KeepsAndGrows keeping middle new → KeepsAndGrows keeping old new
  grows_twice old middle new first second = record {
    catalogue = second.catalogue ∙ first.catalogue;
    grown =
        let a = first.grown in
        let b = second.grown in
        (a.0 ++ b.0, b.1 ∙ ap (λ (l : Log). l ++ b.0) a.1 ∙ append_assoc (keeping.log old.board) a.0 b.0);
  }

  -- an install that isn't forced shows the version, or nothing
  newer_front : (number : ℕ) (version : MapVersion) (old new : Published D B) → InstallsNewer number version (rising.publisher_state keeping.log old) (rising.publisher_state keeping.log new)
      → IsFront (keeping.log old.board) (keeping.log new.board)
  newer_front number version old new rises = elim rises [
    | inl e ↦ front_log (keeping.log old.board) (keeping.log new.board) (ap (λ (m : rising.PublisherState). m.log) e)
    | inr stores ↦ elim stores.1.1 [
      | inl e ↦ front_more number version (keeping.log old.board) (keeping.log new.board) (ap (λ (m : rising.PublisherState). m.log) e)
      | inr e ↦ front_log (keeping.log old.board) (keeping.log new.board) (ap (λ (m : rising.PublisherState). m.log) e)
    ]
  ] where
    front_log : (log other : Log) → other ≡ log → IsFront log other
    front_log log other e = front_same (λ (l : Log). l) log other e

  offers_grow : (number : ℕ) (offered : OfferedVersion) (result : Result Installed XfrFault) (old new : Published D B) → offered.force ≡ false → Offers keeping number offered result old new
      → KeepsAndGrows keeping old new
  offers_grow number offered (Ok installed) old new unforced step =
      record { catalogue = step.installs.upheld.catalogue; grown = newer_front number offered.version old new (step.installs.rising unforced) }
  offers_grow number offered (Err fault) old new unforced step =
      record { catalogue = step.refuses.upheld.catalogue; grown = newer_front number offered.version old new (step.refuses.rising unforced) }

  -- what was fetched is installed, or isn't
  pub transfer_grows : (taken : Taken) (outcome : FetchOutcome) (result : Result Installed XfrFault) (old new : Published D B) → taken.map < length old.maps
      → InstallsOutcome keeping (request_for taken) outcome result old new → KeepsAndGrows keeping old new
  transfer_grows taken (Err fault) result old new within installs = grows_nowhere old new installs.1
  transfer_grows taken (Ok version) result old new within installs = elim installs [
    | inl stays ↦ record { catalogue = stays.stays.upheld.catalogue; grown = front_same keeping.log old.board new.board stays.stays.not_shown }
    | inr step ↦
        let opened = opened_front keeping.log taken.map old step.middle within step.opens.upheld.elsewhere step.opens.shown in
        grows_twice old step.middle new (record { catalogue = step.opens.upheld.catalogue; grown = opened })
        (offers_grow taken.map (fetched_offer keeping (request_for taken) version step.middle) result step.middle new refl step.offers)
  ]
