-- What an inbox in memory keeps.
use Rattle.std.specs.Prelude.{ℕ, List, [], ◌∷◌, Option, None, Some}
use Rattle.yp_io.specs.declared.stream.Peer.{Peer}
use Rattle.yp_io.specs.declared.dial.Letter.{Letter}
use Rattle.yp_io.specs.Inboxes.{InboxEvent, Arrived, Silent, Sent}
use Rattle.yp_memory.specs.declared.inbox.Step.{Step}
use Rattle.yp_memory.specs.declared.inbox.Step.TheVariants.{Brought, Passed, Answered}

-- an inbox: what its turns to come bring, what arrived and was sent, the letters alone, and which calls fail
pub record MemInboxModel : Type 0 where
  pub waiting : List InboxEvent
  pub past : List InboxEvent
  pub letters : List (Peer × List ℕ)
  pub failing : List ℕ
  pub calls : ℕ
  pub turns : ℕ
  pub quiets : ℕ
  pub faults : ℕ

abbrev pub letter_of : Letter → Peer × List ℕ
letter_of letter = (letter.peer, letter.bytes.items)

-- the turn of a letter, or a quiet one
abbrev pub turn_of : Option Letter → InboxEvent
turn_of None = Silent
turn_of (Some letter) = Arrived letter.peer letter.bytes.items

-- what is told of a step
abbrev pub post_of : Step → InboxEvent
post_of (Brought letter) = Arrived letter.value.peer letter.value.bytes.items
post_of Passed = Silent
post_of (Answered letter) = Sent letter.value.peer letter.value.bytes.items

-- the first turn of those to come; behind the last all are quiet
abbrev pub first_turn : List InboxEvent → InboxEvent
first_turn [] = Silent
first_turn (event ∷ events) = event

-- the turns behind the first one
abbrev pub turns_behind : List InboxEvent → List InboxEvent
turns_behind [] = []
turns_behind (event ∷ events) = events
