-- What an inbox and a handler do with each other, a turn at a time.
use Rattle.std.specs.Prelude.{◌≡◌, ℕ, ◌<◌, ◌≤◌, List, [], ◌∷◌, ◌++◌, length, ⊤}
use Rattle.std.specs.Prelude.{zero, suc}
use Rattle.std.specs.Prelude.{Option, None, Some, Result, Ok, Err}
use Rattle.yp_io.specs.declared.stream.Failed.{Failed}
use Rattle.yp_io.specs.declared.stream.Peer.{Peer}
use Rattle.yp_io.specs.Counts.{next_count}
use Rattle.yp_io.specs.Inboxes.{InboxEvent, Arrived, Silent, Sent, turns_of, quiets_of}
use Rattle.yp_rpc.specs.declared.turns.Ended.{Ended}
use Rattle.yp_rpc.specs.declared.turns.Ended.TheVariants.{Done, Spent}

-- the most bytes of a datagram, a call's or a reply's: a longer one that comes is dropped
abbrev pub datagram_max : ℕ
datagram_max = 8192

-- what a handler wants next: that a letter is sent, that a turn is taken, or nothing more
pub data Want : Type 0 where
  Letter : Peer → List ℕ → Want
  Turn : Want
  Nothing : Want

-- what a handler does at each moment, each as a relation between itself before and after: it goes on to what it wants
-- next; it hears a datagram of a peer, with its reply, where there is one; a turn brings it nothing
pub record Ways (E : Type 0) : Type 1 where
  pub goes : E → Want → E → Type 0
  pub hears : Peer → List ℕ → Option (List ℕ) → E → E → Type 0
  pub rests : E → E → Type 0

abbrev pub ways_of : {E : Type 0} → (E → Want → E → Type 0) → (Peer → List ℕ → Option (List ℕ) → E → E → Type 0)
    → (E → E → Type 0) → Ways E
ways_of goes hears rests = record { goes = goes; hears = hears; rests = rests }

-- A handler meets a turn. A datagram over the limit is dropped. Any other is heard, and a reply goes to its sender.
pub data Meets {E : Type 0} (ways : Ways E) : InboxEvent → List InboxEvent → E → E → Type 0 where
  drops : (from : Peer) (bytes : List ℕ) (handler : E) → datagram_max < length bytes
      → Meets ways (Arrived from bytes) [] handler handler
  listens : (from : Peer) (bytes : List ℕ) (old new : E) → length bytes ≤ datagram_max
      → ways.hears from bytes None old new → Meets ways (Arrived from bytes) [] old new
  replies : (from : Peer) (bytes reply : List ℕ) (old new : E) → length bytes ≤ datagram_max
      → ways.hears from bytes (Some reply) old new → Meets ways (Arrived from bytes) (Sent from reply ∷ []) old new
  is_quiet : (old new : E) → ways.rests old new → Meets ways Silent [] old new

-- What happens at an inbox while a handler has so many turns at most, up to its end, and the handler before and after.
-- Before each turn the handler wants letters sent, one by one, or nothing more; then the turn is taken, and its reply
-- goes out. Where the inbox fails, nothing more happens.
pub data Runs {E : Type 0} (ways : Ways E) : ℕ → List InboxEvent → Result Ended Failed → E → E → Type 0 where
  is_spent : (handler : E) → Runs ways 0 [] (Ok Spent) handler handler
  is_done : (most : ℕ) (old new : E) → ways.goes old Nothing new → Runs ways (suc most) [] (Ok Done) old new
  sends : (most : ℕ) (to : Peer) (bytes : List ℕ) (events : List InboxEvent) (end : Result Ended Failed)
      (old next new : E)
      → ways.goes old (Letter to bytes) next → Runs ways (suc most) events end next new
      → Runs ways (suc most) (Sent to bytes ∷ events) end old new
  loses_letter : (most : ℕ) (to : Peer) (bytes : List ℕ) (why : Failed) (old new : E)
      → ways.goes old (Letter to bytes) new → Runs ways (suc most) [] (Err why) old new
  takes : (most : ℕ) (turn : InboxEvent) (answers events : List InboxEvent) (end : Result Ended Failed)
      (old waiting next new : E)
      → ways.goes old Turn waiting → Meets ways turn answers waiting next → Runs ways most events end next new
      → Runs ways (suc most) (turn ∷ answers ++ events) end old new
  loses_turn : (most : ℕ) (why : Failed) (old new : E) → ways.goes old Turn new
      → Runs ways (suc most) [] (Err why) old new
  loses_reply : (most : ℕ) (turn reply : InboxEvent) (why : Failed) (old waiting new : E)
      → ways.goes old Turn waiting → Meets ways turn (reply ∷ []) waiting new
      → Runs ways (suc most) (turn ∷ []) (Err why) old new

-- what an inbox tells: what happened, and its counts of turns and of quiet turns
pub record InboxTells : Type 0 where
  pub past : Option (List InboxEvent)
  pub turns : ℕ
  pub quiets : ℕ

abbrev pub inbox_tells : {I : Type 0} → (I → Option (List InboxEvent)) → (I → ℕ) → (I → ℕ) → I → InboxTells
inbox_tells past turns quiets inbox = record { past = past inbox; turns = turns inbox; quiets = quiets inbox }

-- What is told grew by these events.
abbrev pub GainsAll : List InboxEvent → Option (List InboxEvent) → Option (List InboxEvent) → Type 0
GainsAll events None new = ⊤
GainsAll events (Some old) None = ⊥
GainsAll events (Some old) (Some new) = new ≡ old ++ events

-- a count after so many more
abbrev pub counted : ℕ → ℕ → ℕ
counted zero before = before
counted (suc more) before = counted more (next_count before)

-- This happened at an inbox.
pub record Sees (events : List InboxEvent) (old new : InboxTells) : Type 0 where
  pub past : GainsAll events old.past new.past
  pub turns : new.turns ≡ counted (length (turns_of events)) old.turns
  pub quiets : new.quiets ≡ counted (quiets_of events) old.quiets

-- a handler and its inbox at a moment
pub record TurnState (E : Type 0) : Type 0 where
  pub handler : E
  pub inbox : InboxTells

abbrev pub turn_state : {E : Type 0} → E → InboxTells → TurnState E
turn_state handler inbox = record { handler = handler; inbox = inbox }

-- A handler had so many turns of an inbox at most, with this end. What happened meanwhile is what the inbox gained.
pub record TakesTurns {E : Type 0} (ways : Ways E) (most : ℕ) (end : Result Ended Failed)
    (old new : TurnState E) : Type 0 where
  pub events : List InboxEvent
  pub runs : Runs ways most events end old.handler new.handler
  pub sees : Sees events old.inbox new.inbox
  pub within : length (turns_of events) ≤ most
  pub all : end ≡ Ok Spent → length (turns_of events) ≡ most
