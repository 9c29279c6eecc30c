-- Replies that lead to a version, whoever wants it.
use Rattle.std.proofs.Common.{◌≡◌, ℕ, Bool, true, false, if◌then◌else◌, Option, None, Some, Result, Ok, Err, refl, sym, subst}
use Rattle.std.proofs.Common.{nat_le}
use Rattle.yp_version.specs.Versions.{MapVersion}
use Rattle.yp_client.specs.declared.fault.ClientFault.{ClientFault}
use Rattle.yp_client.specs.Limits.{reply_max}
use Rattle.yp_client.specs.Results.{order_of}
use Rattle.yp_transfer.specs.declared.fault.XfrFault.{XfrFault}
use Rattle.yp_transfer.specs.declared.fault.XfrFault.TheVariants.{Age}
use Rattle.yp_transfer.specs.Fetching.{Wanted, FetchOutcome, AsksThen, Unless, ByAnswer, AsksMaster, against_order, against_age, against_names}
use Rattle.yp_transfer.specs.Fetched.{StreamPlace, ReadsReply, by_bytes, Fetched}
use Rattle.yp_host.specs.inside.workers.Wires.{sources_in}

-- the first reply has an order, and those behind it give the version
pub record Leads (first : StreamPlace) (version : MapVersion) : Type 0 where
  pub order : ℕ
  pub middle : StreamPlace
  pub last : StreamPlace
  pub reads : ReadsReply reply_max order_of (Ok order) first middle
  pub asks : AsksMaster by_bytes order (Ok version) middle last

module _ (wanted : Wanted) (first : StreamPlace) (version : MapVersion) (last : StreamPlace) where
  unless : (order : ℕ) (middle : StreamPlace) (against : Option XfrFault) → ReadsReply reply_max order_of (Ok order) first middle
      → Unless against (AsksMaster by_bytes order) (Ok version) middle last → Leads first version
  unless order middle None reads asks =
      record { order = order; middle = middle; last = last; reads = reads; asks = asks }
  unless order middle (Some fault) reads stops = let is = stops.0 in absurd cc

  answered : (answer : Result ℕ ClientFault) (middle : StreamPlace) → ReadsReply reply_max order_of answer first middle
      → ByAnswer (λ order. Unless (against_order wanted order) (AsksMaster by_bytes order)) answer (Ok version) middle last
      → Leads first version
  answered (Ok order) middle reads goes = unless order middle (against_order wanted order) reads goes
  answered (Err fault) middle reads stops = let is = stops.0 in absurd cc

  named : (against : Option XfrFault)
      → Unless against (AsksThen (by_bytes.order) (λ order. Unless (against_order wanted order) (AsksMaster by_bytes order)))
      (Ok version) first last → (against ≡ None) × Leads first version
  named None asks = (refl, answered asks.answer asks.middle asks.answered asks.goes_on)
  named (Some fault) stops = let is = stops.0 in absurd cc

-- where a version is fetched, they lead to it, and names are wanted
pub leads : (wanted : Wanted) (first : StreamPlace) (version : MapVersion) → Fetched wanted first (Ok version)
    → (against_names wanted ≡ None) × Leads first version
leads wanted first version fetched = named wanted first version fetched.0 (against_names wanted) fetched.1

-- they lead whoever wants names to it, or to what is against their order
module _ (wanted : Wanted) (first : StreamPlace) (version : MapVersion) (found : Leads first version)
    (names : against_names wanted ≡ None) where
  follow : (outcome : FetchOutcome) (last : StreamPlace)
      → Unless (against_order wanted found.order) (AsksMaster by_bytes found.order) outcome found.middle last
      → Fetched wanted first outcome
  follow outcome last goes = (
    last,
    subst (λ (against : Option XfrFault). Unless against
        (AsksThen (by_bytes.order) (λ order. Unless (against_order wanted order) (AsksMaster by_bytes order))) outcome first last) (sym names)
        record { answer = Ok found.order; middle = found.middle; answered = found.reads; goes_on = goes },
  )

  pub to_version : against_order wanted found.order ≡ None → Fetched wanted first (Ok version)
  to_version none = follow (Ok version) found.last
      (subst (λ (against : Option XfrFault). Unless against (AsksMaster by_bytes found.order) (Ok version) found.middle found.last)
      (sym none) found.asks)

  pub to_fault : (fault : XfrFault) → against_order wanted found.order ≡ Some fault → Fetched wanted first (Err fault)
  to_fault fault some = follow (Err fault) found.middle
      (subst (λ (against : Option XfrFault). Unless against (AsksMaster by_bytes found.order) (Err fault) found.middle found.middle)
      (sym some) (refl, refl))

-- what is against an order is no failed source
by_age : (older : Bool) (shown order : ℕ) (fault : XfrFault)
    → (if older then Some (Age shown order) else None) ≡ Some fault → sources_in (Err fault) ≡ 0
by_age true shown order fault is = let age : Age shown order ≡ fault = cc in subst (λ (f : XfrFault). sources_in (Err f) ≡ 0) age refl
by_age false shown order fault is = absurd cc

by_force : (force : Bool) (shown : Option ℕ) (order : ℕ) (fault : XfrFault)
    → (if force then None else against_age shown order) ≡ Some fault → sources_in (Err fault) ≡ 0
by_force true shown order fault is = absurd cc
by_force false None order fault is = absurd cc
by_force false (Some shown) order fault is = by_age (nat_le order shown) shown order fault is

pub only_age : (wanted : Wanted) (order : ℕ) (fault : XfrFault) → against_order wanted order ≡ Some fault
    → sources_in (Err fault) ≡ 0
only_age wanted order fault is = by_force wanted.force wanted.shown order fault is
