-- How servers of datagrams and a carrier go on with the queue between them.
use Rattle.std.specs.Prelude.{◌≡◌, ◌≤◌, ℕ, Bool, true, false, List, [], ◌++◌, map}
use Rattle.yp_io.specs.Counts.{HasRisen}
use Rattle.yp_io.specs.Inboxes.{InboxEvent}
use Rattle.yp_answer.specs.session.Hosts.{Conduct}
use Rattle.yp_rpc.specs.Turns.{InboxTells}
use Rattle.yp_worker.specs.datagrams.Mailing.{Deferred, Holding, held_behind}
use Rattle.yp_worker.specs.datagrams.Queues.{WeighTheSame}
use Rattle.yp_worker.specs.datagrams.Carrying.{CarrierStep, CarrierTells, TakesCarrierStep, Sends, Delivers}
use Rattle.yp_worker.specs.datagrams.Carrying.{left_for, sent_in}
use Rattle.yp_worker.specs.inside.Queues.{all_parts}

-- a carrier: its host, what it holds of the queue, the inbox that it sends replies from, and whether that has failed
pub record Carrying (I H : Type 0) : Type 0 where
  pub host : H
  pub holding : Holding
  pub inbox : I
  pub fault : Bool

-- a carrier before its first step
abbrev pub carrier_of : {I H : Type 0} → H → Holding → I → Carrying I H
carrier_of host holding inbox = record { host = host; holding = holding; inbox = inbox; fault = false }

-- what is told of it
abbrev pub carrier_told : {I H : Type 0} → (I → InboxTells) → Carrying I H → CarrierTells H
carrier_told box carrier = record { host = carrier.host; inbox = box carrier.inbox }

-- A count of faults never falls, and a fault of an inbox is found only where it rises.
pub record FaultsRise (before after : Bool) (old new : ℕ) : Type 0 where
  pub never_fall : old ≤ new
  pub risen : before ≡ false → after ≡ true → HasRisen old new

-- what is sent where an inbox hasn't failed
abbrev pub sent_unless : Bool → List InboxEvent → List InboxEvent
sent_unless true posts = []
sent_unless false posts = posts

-- what is told of a carrier before and behind each thing that it does: its host, the inbox that it sends replies from,
-- how often that has failed, and whether it was found to have failed
pub record CarrierState (H : Type 0) : Type 0 where
  pub host : H
  pub inbox : InboxTells
  pub faults : ℕ
  pub fault : Bool

abbrev pub carrier_state : {I H : Type 0} → (I → InboxTells) → (I → ℕ) → H → I → Bool → CarrierState H
carrier_state box faults host inbox fault =
    record { host = host; inbox = box inbox; faults = faults inbox; fault = fault }

-- What was left was done by a host, and a reply to it was sent, unless the inbox had failed or fails at that.
pub record DoesLeft {H T : Type 0} (conduct : Conduct H) (counted : H → T) (left : Deferred) (old new : CarrierState H)
    : Type 0 where
  pub step : CarrierStep
  pub step_is : left_for step ≡ left
  pub takes : TakesCarrierStep conduct counted step old.host new.host
  pub sends : Sends (sent_unless new.fault (sent_in step)) old.inbox new.inbox
  pub ended : old.fault ≡ true → new.fault ≡ true
  pub cause : FaultsRise old.fault new.fault old.faults new.faults

-- A carrier took over these from the queue and did what was left. Where its inbox has failed it sends no more.
pub record CarriesOn {I H T : Type 0} (conduct : Conduct H) (counted : H → T) (box : I → InboxTells) (faults : I → ℕ)
    (old new : Carrying I H) : Type 0 where
  pub steps : List CarrierStep
  pub unsent : List CarrierStep
  pub delivers : Delivers conduct counted (record { sent = steps; unsent = unsent }) new.fault (carrier_told box old)
      (carrier_told box new)
  pub ended : old.fault ≡ true → (steps ≡ []) × (new.fault ≡ true)
  pub cause : FaultsRise old.fault new.fault (faults old.inbox) (faults new.inbox)
  pub holding : new.holding ≡ held_behind old.holding [] (map left_for (steps ++ unsent))

-- A carrier did what still waited in the queue. Where it has all parts, what was left there is what was taken over from
-- there and done.
pub record CarriesRest {I H T : Type 0} (conduct : Conduct H) (counted : H → T) (box : I → InboxTells)
    (faults : I → ℕ) (old new : Carrying I H) : Type 0 where
  pub carries : CarriesOn conduct counted box faults old new
  pub all : old.holding.parts ≡ all_parts → WeighTheSame new.holding.left new.holding.took
