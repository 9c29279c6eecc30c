-- The parts of a turn: what an errand wants, hears, replies and loses.
use Rattle.std.specs.Prelude.{◌≡◌, ℕ, ◌<◌, ◌≤◌, List, [], ◌∷◌, ◌++◌, length, take, ⊤, ◌⊎◌}
use Rattle.std.specs.Prelude.{Bool, true, false, zero, suc}
use Rattle.std.specs.Prelude.{Option, None, Some, Result, Ok, Err}
use Rattle.yp_io.specs.declared.stream.Failed.{Failed}
use Rattle.yp_io.specs.declared.inbox.Inbox as inbox
use Rattle.yp_io.specs.declared.stream.Peer.{Peer}
use Rattle.yp_io.specs.Inboxes.{InboxEvent, Arrived}
use Rattle.yp_rpc.specs.declared.handler.Wish.{Wish}
use Rattle.yp_rpc.specs.declared.handler.Wish.TheVariants as wish
use Rattle.yp_rpc.specs.declared.turns.Ended.{Ended}
use Rattle.yp_rpc.specs.declared.turns.Ended.TheVariants.{Done}
use Rattle.yp_rpc.specs.Turns.{Want, Ways, Meets, Runs, InboxTells, inbox_tells, Sees, TurnState}
use Rattle.yp_rpc.specs.Turns.{Letter, Turn, Nothing, replies}

-- a handler's wish, with its letter at the front of a buffer
abbrev pub want_of : Wish → List ℕ → Want
want_of (wish.Send to len) buf = Letter to (take len buf)
want_of wish.Wait buf = Turn
want_of wish.Done buf = Nothing

-- A letter is within its buffer.
abbrev pub WishIsWithin : Wish → List ℕ → Type 0
WishIsWithin (wish.Send to len) buf = len ≤ length buf
WishIsWithin wish.Wait buf = ⊤
WishIsWithin wish.Done buf = ⊤

-- a reply at the front of a buffer, or none where its length is 0
abbrev pub reply_of : ℕ → List ℕ → Option (List ℕ)
reply_of zero buf = None
reply_of (suc n) buf = Some (take (suc n) buf)

-- the same, by the bound of the inbox
abbrev pub box_by : {I : Type 0} → inbox.Ghosts I → I → InboxTells
box_by ghosts = inbox_tells ghosts.past ghosts.turns ghosts.quiets

-- ---- parts of a run

-- What comes of a handler from there on comes of it from here on, behind these events, before the same turn.
abbrev pub Leads : {E : Type 0} → Ways E → List InboxEvent → E → E → Type 0
Leads ways events old next =
    (most : ℕ) (more : List InboxEvent) (end : Result Ended Failed) (new : _) → Runs ways (suc most) more end next new
    → Runs ways (suc most) (events ++ more) end old new

-- Letters went out, and then a turn is wanted.
pub record WaitsForTurn {E : Type 0} (ways : Ways E) (old new : E) (before after : InboxTells) : Type 0 where
  pub events : List InboxEvent
  pub last : E
  pub leads : Leads ways events old last
  pub turn : ways.goes last Turn new
  pub sees : Sees events before after

-- Letters went out, and then there is this end.
pub record EndsWithoutTurn {E : Type 0} (ways : Ways E) (end : Result Ended Failed) (old new : E)
    (before after : InboxTells)
    : Type 0 where
  pub events : List InboxEvent
  pub runs : (most : ℕ) → Runs ways (suc most) events end old new
  pub sees : Sees events before after

-- what happens before a turn, and whether it is then wanted
abbrev pub BeginsTurn : {E : Type 0} → Ways E → Result Bool Failed → E → E → InboxTells → InboxTells → Type 0
BeginsTurn ways (Ok true) old new before after = WaitsForTurn ways old new before after
BeginsTurn ways (Ok false) old new before after = EndsWithoutTurn ways (Ok Done) old new before after
BeginsTurn ways (Err why) old new before after = EndsWithoutTurn ways (Err why) old new before after

-- A turn was met, and its reply went out, if there is one.
pub record MeetsTurn {E : Type 0} (ways : Ways E) (old new : E) (before after : InboxTells) : Type 0 where
  pub turn : InboxEvent
  pub replies : List InboxEvent
  pub meets : Meets ways turn replies old new
  pub sees : Sees (turn ∷ replies) before after

-- A turn was met, and its reply didn't go out.
pub record LosesReply {E : Type 0} (ways : Ways E) (old new : E) (before after : InboxTells) : Type 0 where
  pub turn : InboxEvent
  pub reply : InboxEvent
  pub meets : Meets ways turn (reply ∷ []) old new
  pub sees : Sees (turn ∷ []) before after

-- a turn, which the inbox may refuse
abbrev pub HasTurn : {E T : Type 0} → Ways E → Result T Failed → E → E → InboxTells → InboxTells → Type 0
HasTurn ways (Ok x) old new before after = MeetsTurn ways old new before after
HasTurn ways (Err why) old new before after =
    ((new ≡ old) × Sees [] before after) ⊎ LosesReply ways old new before after

-- a datagram that is heard, with its reply, which the inbox may refuse
abbrev pub IsHeard : {E T : Type 0} → Ways E → Peer → List ℕ → Result T Failed → TurnState E → TurnState E → Type 0
IsHeard ways from bytes (Ok x) old new =
    (replies : List InboxEvent) × Meets ways (Arrived from bytes) replies old.handler new.handler
    × Sees replies old.inbox new.inbox
IsHeard ways from bytes (Err why) old new =
    (reply : InboxEvent) × Meets ways (Arrived from bytes) (reply ∷ []) old.handler new.handler
    × Sees [] old.inbox new.inbox

-- A letter is one less of those that may come before a turn.
abbrev pub SendsFewer : Wish → ℕ → ℕ → Type 0
SendsFewer (wish.Send to len) old new = new < old
SendsFewer wish.Wait old new = ⊤
SendsFewer wish.Done old new = ⊤
