-- A walk over turns of an inbox: its call is sent when it becomes the outstanding one, and again after a quiet turn.
use Rattle.std.specs.Prelude.{◌≡◌, ◌⊎◌, ℕ, Bool, true, false, ◌||◌, if◌then◌else◌, nat_le, List, [], ◌∷◌, length}
use Rattle.std.specs.Prelude.{Option, None, Result, Ok, Err}
use Rattle.yp_io.specs.declared.stream.Failed.{Failed}
use Rattle.yp_io.specs.declared.stream.Peer.{Peer}
use Rattle.yp_io.specs.Inboxes.{InboxEvent, Arrived, Silent, Sent}
use Rattle.yp_rpc.specs.declared.turns.Ended.{Ended}
use Rattle.yp_rpc.specs.declared.turns.Ended.TheVariants.{Spent as AllTaken}
use Rattle.yp_rpc.specs.Turns.{Want, Letter, Turn, Nothing, Ways, ways_of, InboxTells, datagram_max}
use Rattle.yp_rpc.specs.Turns.{turn_state, TakesTurns}
use Rattle.yp_transfer.specs.declared.fault.XfrFault.{XfrFault}
use Rattle.yp_transfer.specs.declared.fault.XfrFault.TheVariants.{NoMemory}
use Rattle.yp_transfer.specs.Fetching.{Wanted, FetchOutcome}
use Rattle.yp_transfer.specs.declared.walk.walked.Walked.{Walked}
use Rattle.yp_transfer.specs.declared.walk.walked.Walked.TheVariants.{Onward}
use Rattle.yp_transfer.specs.walk.Standings.{WalkState, HasEnded, IsAsking, refusal}
use Rattle.yp_transfer.specs.walk.Schedules.{Walking, Delivery, outstanding, Hears, AddsDelivery, begun, told, walk_by}
use Rattle.yp_transfer.specs.walk.Walks.{IsVersionOfDraft}
use Rattle.yp_command_maps.specs.declared.walk.walker.Came.{Came}
use Rattle.yp_command_maps.specs.declared.walk.walker.Came.TheVariants.{Outcome as HasOutcome, Spent, Failed as HasFailed}

-- a walk, and whether its call is to be sent before the next turn
pub record Awaiting : Type 0 where
  pub walk : Walking
  pub is_due : Bool

-- before the first turn
abbrev pub first_of : Peer → Wanted → Awaiting
first_of source wanted = record { walk = begun source wanted; is_due = true }

-- a call is outstanding
abbrev pub goes_on : Result Walked XfrFault → Bool
goes_on (Ok Onward) = true
goes_on told = false

abbrev pub is_on : Awaiting → Bool
is_on awaiting = goes_on (told awaiting.walk.standing)

-- ---- what happens at each moment

-- Nothing more is wanted once the walk has ended. Before it its call is sent, where it is due, and else a turn is
-- taken.
abbrev pub wish : (on due : Bool) → Walking → Want
wish false due walk = Nothing
wish true true walk = Letter walk.source (outstanding walk)
wish true false walk = Turn

-- the call that is sent is due no more
abbrev pub sent : (on : Bool) → Awaiting → Awaiting
sent false awaiting = awaiting
sent true awaiting = record awaiting { is_due = false }

abbrev pub Goes : Awaiting → Want → Awaiting → Type 0
Goes old want new = (want ≡ wish (is_on old) old.is_due old.walk) × (new ≡ sent (is_on old) old)

-- A mail was heard: where another call is then outstanding, that is due. The walk and the mail fix the answer, unless
-- memory ran out.
pub record TakesMail (delivered : Delivery) (old new : Awaiting) : Type 0 where
  pub answer : Result Walked XfrFault
  pub hears : Hears delivered answer old.walk new.walk
  pub adds : AddsDelivery delivered answer old.walk new.walk
  pub due : new.is_due ≡ (goes_on answer || old.is_due)

-- No mail is heard once the walk has ended.
abbrev pub Listens : (on : Bool) → Delivery → Awaiting → Awaiting → Type 0
Listens true delivered old new = TakesMail delivered old new
Listens false delivered old new = new ≡ old

-- A walk hears a datagram, and sends no reply to it.
abbrev pub HearsMail : Peer → List ℕ → Option (List ℕ) → Awaiting → Awaiting → Type 0
HearsMail from mail reply old new = (reply ≡ None) × Listens (is_on old) (from, mail) old new

-- After a quiet turn the call is due again.
abbrev pub Rests : Awaiting → Awaiting → Type 0
Rests old new = new ≡ record old { is_due = true }

abbrev pub walker_ways : Ways Awaiting
walker_ways = ways_of Goes HearsMail Rests

-- ---- what comes of all turns

-- the mails that a walk hears among what happened at an inbox: those within the limit of a datagram
abbrev pub heard_of : List InboxEvent → List Delivery
heard_of [] = []
heard_of (Arrived from mail ∷ events) =
    if nat_le (length mail) datagram_max then (from, mail) ∷ heard_of events else heard_of events
heard_of (Silent ∷ events) = heard_of events
heard_of (Sent to mail ∷ events) = heard_of events

-- The walk stands for all that was delivered, unless memory ran out.
abbrev pub StandsFor : Peer → Wanted → List Delivery → Walking → Type 0
StandsFor source wanted deliveries walk =
    (walk ≡ walk_by source wanted deliveries) ⊎ (walk.standing ≡ refusal NoMemory)

-- A walk that has ended gave this: the version of the rows that came, which isn't secure, unless memory ran out; or why
-- there is none.
abbrev pub Gave : WalkState → FetchOutcome → Type 0
Gave (HasEnded (Ok draft)) outcome = IsVersionOfDraft draft outcome
Gave (HasEnded (Err why)) outcome = outcome ≡ Err why
Gave standing outcome = ⊥

-- what came of turns that ended so, where the walk then stood so: it gave something; or it still asked, and all turns
-- were taken; or the inbox failed
abbrev pub IsCame : Result Ended Failed → WalkState → Came → Type 0
IsCame (Ok end) standing (HasOutcome outcome) = Gave standing outcome
IsCame (Ok end) standing Spent = IsAsking standing × (end ≡ AllTaken)
IsCame (Err why) standing HasFailed = Unit {0}
IsCame end standing came = ⊥

-- A walk over what is wanted of a source had so many turns of an inbox at most, and this came of it. What happened at
-- the inbox fixes the end and the last walk, unless memory ran out.
pub record WalksTo (source : Peer) (wanted : Wanted) (turns : ℕ) (came : Came)
    (before after : InboxTells) : Type 0 where
  pub end : Result Ended Failed
  pub last : Awaiting
  pub takes : TakesTurns walker_ways turns end (turn_state (first_of source wanted) before) (turn_state last after)
  pub stands : StandsFor source wanted (heard_of takes.events) last.walk
  pub comes : IsCame end last.walk.standing came
