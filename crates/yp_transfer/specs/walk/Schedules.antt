-- A walk under any schedule: mail is lost, repeated and reordered, and comes from others. What comes of it is a
-- function of the awaited mails alone.
use Rattle.std.specs.Prelude.{◌≡◌, ℕ, ◌+◌, ◌%◌, ◌^◌, ◌==◌, ◌&&◌, Bool, false, ◌⊎◌, List, [], ◌∷◌, Result, Ok, Err}
use Rattle.std.specs.Prelude.{◌++◌, ⊤}
use Rattle.std.specs.Prelude.{bytes_eq, if◌then◌else◌, IsTrue}
use Rattle.yp_io.specs.declared.stream.Peer.{Peer}
use Rattle.yp_xdr.specs.declared.fault.XdrFault.{XdrFault}
use Rattle.yp_xdr.specs.Kind.{U32, Sequence}
use Rattle.yp_xdr.specs.Reading.{Remaining, reading}
use Rattle.yp_transfer.specs.declared.fault.XfrFault.{XfrFault}
use Rattle.yp_transfer.specs.declared.fault.XfrFault.TheVariants.{NoMemory}
use Rattle.yp_transfer.specs.Fetching.{Wanted}
use Rattle.yp_transfer.specs.declared.walk.walked.Walked.{Walked}
use Rattle.yp_transfer.specs.declared.walk.walked.Walked.TheVariants.{Ignored, Onward, Done}
use Rattle.yp_transfer.specs.walk.Standings.{WalkState, AsksOrder, HasEnded}
use Rattle.yp_transfer.specs.walk.Standings.{state_after, asked_by, refusal}

-- a walk: its source, what is wanted of it, the number of the outstanding call, and what that asks
pub record Walking : Type 0 where
  pub source : Peer
  pub wanted : Wanted
  pub xid : ℕ
  pub standing : WalkState

-- the bytes of its outstanding call
abbrev pub outstanding : Walking → List ℕ
outstanding walking = asked_by walking.wanted walking.xid walking.standing

-- ---- the awaited mail

-- two words: the number of the call, and 1, REPLY (RFC 5531 section 9)
abbrev pub is_reply : ℕ → Result ((ℕ × ℕ) × Remaining) XdrFault → Bool
is_reply xid (Ok read) = (read.0.0 == xid) && (read.0.1 == 1)
is_reply xid (Err fault) = false

-- whether a mail begins as the reply to the call with a number
abbrev pub answers : ℕ → List ℕ → Bool
answers xid mail = is_reply xid (reading (Sequence U32 U32) (record { at = 0; bytes = mail }))

-- a mail that is delivered, and its sender
abbrev pub Delivery : Type 0
Delivery = Peer × List ℕ

abbrev pub is_awaited : Peer → ℕ → Delivery → Bool
is_awaited source xid delivered =
    bytes_eq delivered.0.addr source.addr && ((delivered.0.port == source.port) && answers xid delivered.1)

-- the number of the call behind one with a number
abbrev pub next_xid : ℕ → ℕ
next_xid xid = (xid + 1) % 2 ^ 32

-- ---- one mail

-- the walk behind a mail: it goes on by the awaited one, and others change nothing
abbrev pub gone_on : Walking → List ℕ → Walking
gone_on walking reply = record walking {
  xid = next_xid walking.xid;
  standing = state_after walking.wanted walking.xid walking.standing reply;
}

abbrev pub heard : Walking → Delivery → Walking
heard walking delivered =
    if is_awaited walking.source walking.xid delivered then gone_on walking delivered.1 else walking

-- what the code answers for an awaited mail, by what the walk asks next
abbrev pub told : WalkState → Result Walked XfrFault
told (HasEnded (Ok draft)) = Ok Done
told (HasEnded (Err fault)) = Err fault
told standing = Ok Onward

-- what is answered to a mail
abbrev pub answer_to : Walking → Delivery → Result Walked XfrFault
answer_to walking delivered =
    if is_awaited walking.source walking.xid delivered then told (gone_on walking delivered.1).standing
    else Ok Ignored

-- The awaited mail came, and memory ran out.
pub record RunsOut (delivered : Delivery) (result : Result Walked XfrFault) (old new : Walking) : Type 0 where
  pub awaited : IsTrue (is_awaited old.source old.xid delivered)
  pub answer : result ≡ Err NoMemory
  pub walk : new ≡ record (gone_on old delivered.1) { standing = refusal NoMemory }

-- A mail was heard.
abbrev pub Hears : Delivery → Result Walked XfrFault → Walking → Walking → Type 0
Hears delivered result old new =
    ((new ≡ heard old delivered) × (result ≡ answer_to old delivered)) ⊎ RunsOut delivered result old new

-- ---- any schedule

-- a walk of which nothing was heard
abbrev pub begun : Peer → Wanted → Walking
begun source wanted = record { source = source; wanted = wanted; xid = 1; standing = AsksOrder }

-- the awaited mails among those that are delivered, where the outstanding call has this number
abbrev pub awaited : Peer → ℕ → List Delivery → List (List ℕ)
awaited source xid [] = []
awaited source xid (delivered ∷ deliveries) =
    if is_awaited source xid delivered then delivered.1 ∷ awaited source (next_xid xid) deliveries
    else awaited source xid deliveries

-- what comes of the awaited mails, in their order
abbrev pub came_of : Walking → List (List ℕ) → Walking
came_of walking [] = walking
came_of walking (reply ∷ replies) = came_of (gone_on walking reply) replies

-- the walk behind all that is delivered
abbrev pub walk_by : Peer → Wanted → List Delivery → Walking
walk_by source wanted deliveries = came_of (begun source wanted) (awaited source 1 deliveries)

-- A mail was delivered beside the others: the walk stands for all of them, unless memory ran out.
abbrev pub AddsDelivery : Delivery → Result Walked XfrFault → Walking → Walking → Type 0
AddsDelivery delivered (Err NoMemory) old new = ⊤
AddsDelivery delivered result old new =
    (source : Peer) (wanted : Wanted) (deliveries : List Delivery) → old ≡ walk_by source wanted deliveries
    → new ≡ walk_by source wanted (deliveries ++ delivered ∷ [])
