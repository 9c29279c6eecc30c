-- How a map is fetched (ypxfr): ORDER, MASTER, ALL and again ORDER are asked, each where the one before it had a value
-- against which nothing stands.
use Rattle.std.specs.Prelude.{◌≡◌, ◌⊎◌, ℕ, ◌==◌, ◌||◌, nat_le, Bool, List, length, Option, None, Some, Result, Ok}
use Rattle.std.specs.Prelude.{Err, if◌then◌else◌}
use Rattle.yp_version.specs.Rows.{listed}
use Rattle.yp_version.specs.Versions.{MapVersion, unmarked}
use Rattle.yp_version.specs.Drafts.{Draft, empty_draft}
use Rattle.yp_board.specs.Catalogues.{is_name}
use Rattle.yp_client.specs.declared.fault.ClientFault.{ClientFault}
use Rattle.yp_transfer.specs.declared.fault.XfrFault.{XfrFault}
use Rattle.yp_transfer.specs.declared.fault.XfrFault.TheVariants.{Age, Skew, Dbm, Badargs, NoMemory}
use Rattle.yp_transfer.specs.Faults.{of_client}

-- what is wanted: a map of a domain, with an order over the one that is shown of it, unless it is forced
pub record Wanted : Type 0 where
  pub domain : List ℕ
  pub map : List ℕ
  pub shown : Option ℕ
  pub force : Bool

abbrev pub wanted_of : List ℕ → List ℕ → Option ℕ → Bool → Wanted
wanted_of domain map shown force = record { domain = domain; map = map; shown = shown; force = force }

-- the version, or why there is none
abbrev pub FetchOutcome : Type 0
FetchOutcome = Result MapVersion XfrFault

-- ---- what stands against it

-- an empty name
abbrev pub against_names : Wanted → Option XfrFault
against_names wanted = if length wanted.domain == 0 || length wanted.map == 0 then Some Badargs else None

-- an order that isn't over the one that is shown
abbrev pub against_age : Option ℕ → ℕ → Option XfrFault
against_age None order = None
against_age (Some shown) order = if nat_le order shown then Some (Age shown order) else None

abbrev pub against_order : Wanted → ℕ → Option XfrFault
against_order wanted order = if wanted.force then None else against_age wanted.shown order

-- a master without a name; one with a longer name than a version may have can't be read
abbrev pub against_master : List ℕ → Option XfrFault
against_master master = if is_name master then None else Some Dbm

-- an order that isn't the first one
abbrev pub against_second : ℕ → ℕ → Option XfrFault
against_second first second = if first == second then None else Some (Skew first second)

-- ---- in turn

-- what comes of something between two states
abbrev pub Course : Type 0 → Type 1
Course State = FetchOutcome → State → State → Type 0

-- Nothing follows.
abbrev pub StopsFetch : {State : Type 0} → XfrFault → Course State
StopsFetch fault outcome old new = (outcome ≡ Err fault) × (new ≡ old)

-- A fetch goes on where there is no fault, and else ends by it.
abbrev pub Unless : {State : Type 0} → Option XfrFault → Course State → Course State
Unless None follows outcome old new = follows outcome old new
Unless (Some fault) follows outcome old new = StopsFetch fault outcome old new

-- A fetch goes on with the value of an answer, and else ends by its fault.
abbrev pub ByAnswer : {State V : Type 0} → (V → Course State) → Result V ClientFault → Course State
ByAnswer follows (Ok value) outcome old new = follows value outcome old new
ByAnswer follows (Err fault) outcome old new = StopsFetch (of_client fault) outcome old new

-- Something is asked, and then it goes on by the answer.
pub record AsksThen {State V : Type 0} (asked : Result V ClientFault → State → State → Type 0)
    (follows : V → Course State)
    (outcome : FetchOutcome) (old new : State) : Type 0 where
  pub answer : Result V ClientFault
  pub middle : State
  pub answered : asked answer old middle
  pub goes_on : ByAnswer follows answer outcome middle new

-- how the source is asked for the order, for the master, and for all rows, onto some that a version has already; and
-- whether memory may run out
pub record FetchSource (State : Type 0) : Type 1 where
  pub order : Result ℕ ClientFault → State → State → Type 0
  pub master : Result (List ℕ) ClientFault → State → State → Type 0
  pub rows : Draft → Result Draft ClientFault → State → State → Type 0
  pub limited : Type 0

module _ {State : Type 0} (source : FetchSource State) where
  -- A fetch goes on, or ends because memory ran out.
  abbrev pub InMemory : Course State → Course State
  InMemory follows outcome old new = follows outcome old new ⊎ (source.limited × StopsFetch NoMemory outcome old new)

  -- a version of these rows, which isn't secure
  abbrev pub Gives : Draft → Course State
  Gives draft outcome old new = (outcome ≡ Ok (unmarked draft.order draft.master (listed draft.rows))) × (new ≡ old)

  -- the second ORDER
  abbrev pub AsksAgain : Draft → Course State
  AsksAgain draft =
      AsksThen source.order (λ second. Unless (against_second draft.order second) (InMemory (Gives draft)))

  -- ALL
  abbrev pub AsksRows : Draft → Course State
  AsksRows draft = AsksThen (source.rows draft) AsksAgain

  -- MASTER
  abbrev pub AsksMaster : ℕ → Course State
  AsksMaster order =
      AsksThen source.master (λ master. Unless (against_master master)
      (InMemory (AsksRows (empty_draft order master))))

  -- ORDER, and the rest
  abbrev pub Fetches : Wanted → Course State
  Fetches wanted =
      Unless (against_names wanted)
      (AsksThen source.order (λ order. Unless (against_order wanted order) (AsksMaster order)))
