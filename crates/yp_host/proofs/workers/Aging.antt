-- The order that an outcome says to be shown is the one that is.
use Rattle.std.proofs.Common.{◌≡◌, inl, inr, ℕ, Bool, true, false, if◌then◌else◌, nat_le, ◌==◌, ◌||◌, List, length, Option, None, Some, Result, Ok, Err, refl, sym, subst}
use Rattle.std.specs.Option.{ok_or}
use Rattle.yp_io.specs.declared.stream.Peer.{Peer}
use Rattle.yp_io.specs.Dials.{Dialing}
use Rattle.yp_version.specs.Drafts.{Draft, empty_draft}
use Rattle.yp_board.specs.Catalogues.{is_name}
use Rattle.yp_client.specs.declared.fault.ClientFault.{ClientFault}
use Rattle.yp_transfer.specs.declared.fault.XfrFault.{XfrFault}
use Rattle.yp_transfer.specs.declared.fault.XfrFault.TheVariants.{Maddr, Rpc, Nodom, Nomap, Yperr, Xfrerr, Age, Skew, Dbm, Badargs, File, Refused, NoMemory}
use Rattle.yp_transfer.specs.Faults.{of_client}
use Rattle.yp_transfer.specs.HostTable.{HostList, find}
use Rattle.yp_transfer.specs.Fetching.{Wanted, wanted_of, FetchOutcome, Course, FetchSource, StopsFetch, Unless, ByAnswer, AsksThen, InMemory, Gives, AsksAgain, AsksRows, AsksMaster, against_order, against_age}
use Rattle.yp_transfer.specs.Called.{by_calls}
use Rattle.yp_transfer.specs.Dialing.{ByAddress, FetchesFrom, FetchesOnWire}
use Rattle.yp_host.specs.inside.workers.Wires.{orders_in, IsAgedBy}
use Rattle.yp_host.proofs.workers.Reaching.{not_of_client}

-- no other fault stands against an order
no_age : (shown : Option ℕ) (why : XfrFault) → orders_in (Err why) ≡ 0 → IsAgedBy shown (Err why)
no_age shown (Age order offered) none = absurd cc
no_age shown Maddr none = tt
no_age shown Rpc none = tt
no_age shown Nodom none = tt
no_age shown Nomap none = tt
no_age shown (Yperr stat) none = tt
no_age shown (Xfrerr at) none = tt
no_age shown (Skew first second) none = tt
no_age shown Dbm none = tt
no_age shown Badargs none = tt
no_age shown File none = tt
no_age shown Refused none = tt
no_age shown NoMemory none = tt

module _ {State : Type 0} (source : FetchSource State) (shown : Option ℕ) where
  stops : (why : XfrFault) (outcome : FetchOutcome) (old new : State) → orders_in (Err why) ≡ 0 → StopsFetch why outcome old new
      → IsAgedBy shown outcome
  stops why outcome old new none is = subst (IsAgedBy shown) (sym is.0) (no_age shown why none)

  -- what follows a test, and what follows an answer
  unless : (fine : Bool) (why : XfrFault) (follows : Course State) (outcome : FetchOutcome) (old new : State)
      → orders_in (Err why) ≡ 0 → (follows outcome old new → IsAgedBy shown outcome)
      → Unless (if fine then None else Some why) follows outcome old new → IsAgedBy shown outcome
  unless true why follows outcome old new none aged goes = aged goes
  unless false why follows outcome old new none aged goes = stops why outcome old new none goes

  answered : {V : Type 0} (follows : V → Course State) (answer : Result V ClientFault) (outcome : FetchOutcome) (old new : State)
      → ((value : V) → follows value outcome old new → IsAgedBy shown outcome)
      → ByAnswer follows answer outcome old new → IsAgedBy shown outcome
  answered follows (Ok value) outcome old new aged goes = aged value goes
  answered follows (Err fault) outcome old new aged goes =
      stops (of_client fault) outcome old new (not_of_client fault) goes

  in_memory : (follows : Course State) (outcome : FetchOutcome) (old new : State)
      → (follows outcome old new → IsAgedBy shown outcome) → InMemory source follows outcome old new → IsAgedBy shown outcome
  in_memory follows outcome old new aged goes = elim goes [
    | inl on ↦ aged on
    | inr memory ↦ stops NoMemory outcome old new refl memory.1
  ]

  -- the replies, from the last one on
  again : (draft : Draft) (outcome : FetchOutcome) (old new : State) → AsksAgain source draft outcome old new → IsAgedBy shown outcome
  again draft outcome old new asks =
      answered _ asks.answer outcome asks.middle new (λ second goes.
      unless (draft.order == second) (Skew draft.order second) _ outcome asks.middle new refl (λ on.
      in_memory (Gives source draft) outcome asks.middle new (λ gives. subst (IsAgedBy shown) (sym gives.0) tt) on) goes) asks.goes_on

  rows : (draft : Draft) (outcome : FetchOutcome) (old new : State) → AsksRows source draft outcome old new → IsAgedBy shown outcome
  rows draft outcome old new asks =
      answered (AsksAgain source) asks.answer outcome asks.middle new (λ value goes. again value outcome asks.middle new goes) asks.goes_on

  master : (order : ℕ) (outcome : FetchOutcome) (old new : State) → AsksMaster source order outcome old new → IsAgedBy shown outcome
  master order outcome old new asks =
      answered _ asks.answer outcome asks.middle new (λ name goes.
      unless (is_name name) Dbm _ outcome asks.middle new refl (λ on.
      in_memory (AsksRows source (empty_draft order name)) outcome asks.middle new
      (λ more. rows (empty_draft order name) outcome asks.middle new more) on) goes) asks.goes_on

module _ {State : Type 0} (source : FetchSource State) (domain map : List ℕ) (outcome : FetchOutcome) where
  by_age : (older : Bool) (shown order : ℕ) (old new : State)
      → Unless (if older then Some (Age shown order) else None) (AsksMaster source order) outcome old new
      → IsAgedBy (Some shown) outcome
  by_age true shown order old new goes = subst (IsAgedBy (Some shown)) (sym goes.0) refl
  by_age false shown order old new goes = master source (Some shown) order outcome old new goes

  by_order : (shown : Option ℕ) (order : ℕ) (old new : State)
      → Unless (against_age shown order) (AsksMaster source order) outcome old new → IsAgedBy shown outcome
  by_order None order old new goes = master source None order outcome old new goes
  by_order (Some shown) order old new goes = by_age (nat_le order shown) shown order old new goes

  by_names : (empty : Bool) (shown : Option ℕ) (old new : State)
      → Unless (if empty then Some Badargs else None)
      (AsksThen source.order (λ order. Unless (against_order (wanted_of domain map shown false) order) (AsksMaster source order)))
      outcome old new → IsAgedBy shown outcome
  by_names true shown old new goes = stops source shown Badargs outcome old new refl goes
  by_names false shown old new asks =
      answered source shown _ asks.answer outcome asks.middle new (λ order goes. by_order shown order asks.middle new goes) asks.goes_on

-- ---- of a fetch from a source of the table

module _ (domain map : List ℕ) (shown : Option ℕ) (outcome : FetchOutcome) (old new : Dialing) where
  abbrev wanted : Wanted
  wanted = wanted_of domain map shown false

  by_wire : (peer : Peer) → FetchesOnWire peer wanted outcome old new → IsAgedBy shown outcome
  by_wire peer wire = elim wire.fetches [
    | inl calls ↦ by_names (by_calls domain map) domain map outcome (length domain == 0 || length map == 0) shown wire.first
        wire.last calls
    | inr memory ↦ stops (by_calls domain map) shown NoMemory outcome wire.first wire.last refl memory
  ]

  by_fault : (why : XfrFault) → orders_in (Err why) ≡ 0 → outcome ≡ Err why → IsAgedBy shown outcome
  by_fault why none is = subst (IsAgedBy shown) (sym is) (no_age shown why none)

  by_address : (empty : Bool) (found : Option Peer)
      → ByAddress wanted (if empty then Err Badargs else ok_or found Maddr) outcome old new → IsAgedBy shown outcome
  by_address true found goes = by_fault Badargs refl goes.0
  by_address false None goes = by_fault Maddr refl goes.0
  by_address false (Some peer) goes = elim goes [
    | inl none ↦ by_fault Rpc refl none.0
    | inr wire ↦ by_wire peer wire
  ]

  pub fetched_aged : (hosts : HostList) (source : List ℕ) → FetchesFrom hosts source wanted outcome old new
      → IsAgedBy shown outcome
  fetched_aged hosts source fetches =
      by_address (length domain == 0 || length map == 0 || length source == 0) (find source hosts) fetches
