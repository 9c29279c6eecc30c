-- What is told of an inbox: what came and what was sent, in one order.
use Rattle.std.specs.Prelude.{◌≡◌, ℕ, ◌+◌, ◌≤◌, List, [], ◌∷◌, ◌++◌, length, take, min, Option, None, Some, Result}
use Rattle.std.specs.Prelude.{Ok, Err, ⊤}
use Rattle.yp_io.specs.Counts.{next_count}
use Rattle.yp_io.specs.declared.stream.Peer.{Peer}
use Rattle.yp_io.specs.declared.inbox.Mail.{Mail}
use Rattle.yp_io.specs.declared.inbox.Mail.TheVariants as mail

-- what happens at an inbox: a datagram arrives from a peer, a turn goes by without one, or a datagram is sent to a peer
pub data InboxEvent : Type 0 where
  Arrived : Peer → List ℕ → InboxEvent
  Silent : InboxEvent
  Sent : Peer → List ℕ → InboxEvent

-- its turns alone: datagrams that arrived, and quiet turns
abbrev pub turns_of : List InboxEvent → List InboxEvent
turns_of [] = []
turns_of (Arrived peer bytes ∷ events) = Arrived peer bytes ∷ turns_of events
turns_of (Silent ∷ events) = Silent ∷ turns_of events
turns_of (Sent peer bytes ∷ events) = turns_of events

-- how many quiet turns there were
abbrev pub quiets_of : List InboxEvent → ℕ
quiets_of [] = 0
quiets_of (Arrived peer bytes ∷ events) = quiets_of events
quiets_of (Silent ∷ events) = 1 + quiets_of events
quiets_of (Sent peer bytes ∷ events) = quiets_of events

-- A buffer holds what fits of a datagram, at its front.
pub record HoldsFront (bytes : List ℕ) (len : ℕ) (buf : List ℕ) : Type 0 where
  pub cut : len ≡ min (length bytes) (length buf)
  pub front : take len buf ≡ take len bytes

-- A turn is what it answers, with the datagram in a buffer.
abbrev pub IsTurn : Mail → List ℕ → InboxEvent → Type 0
IsTurn (mail.Came len from) buf (Arrived peer bytes) = (peer ≡ from) × HoldsFront bytes len buf
IsTurn mail.Quiet buf Silent = ⊤
IsTurn _ buf event = ⊥

-- A buffer has room for what is said to be in it.
abbrev pub MailIsWithin : Mail → List ℕ → Type 0
MailIsWithin (mail.Came len from) buf = len ≤ length buf
MailIsWithin mail.Quiet buf = ⊤

-- What is told grew by the turn that was answered.
abbrev pub GainsTurn : Mail → List ℕ → Option (List InboxEvent) → Option (List InboxEvent) → Type 0
GainsTurn answer buf None new = ⊤
GainsTurn answer buf (Some events) None = ⊥
GainsTurn answer buf (Some events) (Some others) =
    (event : InboxEvent) × IsTurn answer buf event × (others ≡ events ++ event ∷ [])

-- the count of turns after a call for one: one more where it was answered
abbrev pub turns_after : {T E : Type 0} → ℕ → Result T E → ℕ
turns_after before (Ok answer) = next_count before
turns_after before (Err why) = before

-- the count of quiet turns after a call for a turn: one more where it was quiet
abbrev pub quiets_after : {E : Type 0} → ℕ → Result Mail E → ℕ
quiets_after before (Ok mail.Quiet) = next_count before
quiets_after before (Ok (mail.Came len from)) = before
quiets_after before (Err why) = before
