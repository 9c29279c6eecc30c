-- What holds of the words of this crate.
use Rattle.std.specs.Prelude.{◌≡◌}
use Rattle.yp_transfer.specs.Fetching.{Wanted, FetchOutcome}
use Rattle.yp_transfer.specs.Fetched.{StreamPlace, Fetched}

-- bytes give one outcome
abbrev pub FetchedIsOne : Type 0
FetchedIsOne = (wanted : Wanted) (place : StreamPlace) (outcome other : FetchOutcome)
    → Fetched wanted place outcome → Fetched wanted place other → outcome ≡ other
