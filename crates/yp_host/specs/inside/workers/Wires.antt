-- The numbers of a dial's wires by what they gave.
use Rattle.std.specs.Prelude.{◌≡◌, ℕ, Contains, Option, Some}
use Rattle.std.specs.Prelude.{Ok, Err, ⊤}
use Rattle.yp_transfer.specs.declared.fault.XfrFault.TheVariants.{Age, NoMemory}
use Rattle.yp_transfer.specs.Fetching.{FetchOutcome}
use Rattle.yp_publisher.specs.sharing.Tracing.{FetchLog}

-- how many orders were reached by a fetch: that of the version, or one that isn't over the one that is shown
abbrev pub orders_in : FetchOutcome → ℕ
orders_in (Ok version) = 1
orders_in (Err (Age shown offered)) = 1
orders_in (Err why) = 0

-- how many sources failed: one, unless it gave a version or such an order, or memory ran out
abbrev pub sources_in : FetchOutcome → ℕ
sources_in (Ok version) = 0
sources_in (Err (Age shown offered)) = 0
sources_in (Err NoMemory) = 0
sources_in (Err why) = 1

-- how many versions were fetched
abbrev pub versions_in : FetchOutcome → ℕ
versions_in (Ok version) = 1
versions_in (Err why) = 0

-- The order that an outcome says to be shown is the one that is.
abbrev pub IsAgedBy : Option ℕ → FetchOutcome → Type 0
IsAgedBy shown (Err (Age order offered)) = shown ≡ Some order
IsAgedBy shown _ = ⊤

-- A version that was fetched is one of those that are known to be fetched, if any are.
abbrev pub IsNoted : FetchOutcome → Option FetchLog → Type 0
IsNoted (Ok version) (Some fetches) = Contains fetches version
IsNoted outcome known = ⊤
