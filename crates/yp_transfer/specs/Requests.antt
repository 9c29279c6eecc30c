-- What is asked of a transfer.
use Rattle.std.specs.Prelude.{ℕ, Bool, List, Option}

-- what is asked for: a map by its number, from a source by its name, whether it is forced, and its mark, if it has one
pub record TransferRequest : Type 0 where
  pub number : ℕ
  pub source : List ℕ
  pub force : Bool
  pub mark : Option Bool

abbrev pub request_of : ℕ → List ℕ → Bool → Option Bool → TransferRequest
request_of number source force mark = record { number = number; source = source; force = force; mark = mark }
