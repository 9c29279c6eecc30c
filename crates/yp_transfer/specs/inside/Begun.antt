-- Whether a version is begun.
use Rattle.std.specs.Prelude.{◌≡◌, ◌⊎◌, ℕ, List, Some, None, Result, Ok, Err}
use Rattle.yp_version.specs.Drafts.{Draft, empty_draft}
use Rattle.yp_transfer.specs.declared.fault.XfrFault.{XfrFault}
use Rattle.yp_transfer.specs.declared.fault.XfrFault.TheVariants.{NoMemory}
use Rattle.yp_transfer.specs.Fetching.{against_master}

-- A builder is made with this order and this master, where nothing stands against the master, unless memory runs out.
abbrev pub BeginsDraft : ℕ → List ℕ → Result Draft XfrFault → Type 0
BeginsDraft order master (Ok draft) = (draft ≡ empty_draft order master) × (against_master master ≡ None)
BeginsDraft order master (Err fault) =
    (against_master master ≡ Some fault) ⊎ ((fault ≡ NoMemory) × (against_master master ≡ None))
