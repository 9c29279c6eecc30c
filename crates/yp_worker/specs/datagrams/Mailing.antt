-- A server of datagrams: what it does at each moment of its turns.
use Rattle.std.specs.Prelude.{◌≡◌, ◌⊎◌, ℕ, Bool, true, false, List, [], ◌∷◌, ◌++◌, map, Option, None, Result, Ok, Err}
use Rattle.std.specs.Prelude.{option_map, option_to_list}
use Rattle.atomic_table.specs.Seated.{TableId}
use Rattle.yp_io.specs.declared.stream.Peer.{Peer}
use Rattle.yp_io.specs.declared.stream.Failed.{Failed}
use Rattle.yp_board.specs.Logs.{Log}
use Rattle.yp_board.specs.Views.{IsFront}
use Rattle.yp_answer.specs.declared.procedure.Path.TheVariants.{Datagram}
use Rattle.yp_answer.specs.Transfer.{Taken}
use Rattle.yp_answer.specs.session.Hosts.{Conduct, Turn, Link, CarriesOut, counts_behind}
use Rattle.yp_answer.specs.session.Makes.{may_make}
use Rattle.yp_rpc.specs.Turns.{Want, Turn as Taking, Ways, ways_of}
use Rattle.yp_rpc.specs.declared.turns.Ended.{Ended}
use Rattle.yp_worker.specs.Working.{IsTold}

-- a transfer that was taken and isn't yet carried out, and its caller
abbrev pub Awaited : Type 0
Awaited = Taken × Peer

-- what a server leaves for a carrier: a transfer that was taken, or a call of a peer that isn't answered yet, and what
-- the server knew when it left that
pub data Deferred : Type 0 where
  Transfer : Awaited → Deferred
  Call : Peer → (message : List ℕ) → (known : Log) → Deferred

-- which queue it is
abbrev pub QueueName : Type 0
QueueName = TableId

-- what is held of the queue that servers and a carrier share: which queue it is, the parts of the right to know the
-- whole, what was left there, and what was taken over from there, each in that order
pub record Holding : Type 0 where
  pub queue : QueueName
  pub parts : ℕ
  pub left : List Deferred
  pub took : List Deferred

-- a server: its host, the transfer that waits until its reply is out, and what it holds of the queue
pub record Mailing (H : Type 0) : Type 0 where
  pub host : H
  pub waiting : Option Awaited
  pub holding : Holding

-- so many parts of a queue, for one who has left nothing there yet
abbrev pub nothing_held : QueueName → ℕ → Holding
nothing_held queue parts = record { queue = queue; parts = parts; left = []; took = [] }

-- more was left in the queue, and more was taken over
abbrev pub held_behind : Holding → (left took : List Deferred) → Holding
held_behind holding left took = record holding { left = holding.left ++ left; took = holding.took ++ took }

-- A transfer whose reply is out is carried out by its server, where that is said, or else left: what is carried out of
-- it, and what is left.
abbrev pub carried_where : Bool → Option Awaited → List Awaited
carried_where true waiting = option_to_list waiting
carried_where false waiting = []

abbrev pub left_where : Bool → Option Awaited → List Deferred
left_where true waiting = []
left_where false waiting = map (λ one. Transfer one) (option_to_list waiting)

module _ {H : Type 0} (conduct : Conduct H) where
  -- Transfers are carried out, one after the other, each for its caller.
  abbrev pub CarriesAll : List Awaited → H → H → Type 0
  CarriesAll [] old new = new ≡ old
  CarriesAll (one ∷ more) old new = (next : H) × CarriesOut conduct one.0 one.1 old next × CarriesAll more next new

  -- The transfer that waited, if one did, was left in the queue, or, where there was no room, carried out, and none
  -- waits any more.
  pub record Clears (old new : Mailing H) : Type 0 where
    pub is_carried : Bool
    pub carries : CarriesAll (carried_where is_carried old.waiting) old.host new.host
    pub cleared : new.waiting ≡ None
    pub holding : new.holding ≡ held_behind old.holding (left_where is_carried old.waiting) []

  -- A server wants turns alone. Before each, the transfer whose reply went out is left in the queue.
  abbrev pub Goes : Mailing H → Want → Mailing H → Type 0
  Goes old Taking new = Clears old new
  Goes old want new = ⊥

  -- What is left behind the last turn: a transfer whose reply went out is left in the queue. Where the inbox has failed
  -- no such reply is left, and what waits is dropped.
  abbrev pub Closes : Result Ended Failed → Mailing H → Mailing H → Type 0
  Closes (Ok ended) old new = Clears old new
  Closes (Err why) old new = new ≡ record old { waiting = None }

  -- A datagram of a peer had its turn with the host: the reply is that on what it then knows, and a map that the
  -- datagram asks for was made. A transfer that it asks for isn't carried out in the turn. What was known before is a
  -- front of what is known.
  pub record AnswersMail (peer : Peer) (turn : Turn) (old new : H) : Type 0 where
    pub link : Link conduct Datagram peer turn old new
    pub unflushed : turn.flushed ≡ false
    pub grown : IsFront (conduct.seen old).known (conduct.seen new).known
    pub catalogue : (conduct.seen new).catalogue ≡ (conduct.seen old).catalogue
    pub counts : conduct.counts new ≡ counts_behind (conduct.counts old) turn

  -- A datagram of a peer is answered, with this reply or silence, which isn't out yet. A transfer that it takes waits.
  pub record Answers (peer : Peer) (message : List ℕ) (answer : Option (List ℕ)) (old new : Mailing H) : Type 0 where
    pub turn : Turn
    pub message_is : turn.message ≡ message
    pub answer_is : turn.answer ≡ answer
    pub answers : AnswersMail peer turn old.host new.host
    pub waits : new.waiting ≡ option_map (λ taken. (taken, peer)) turn.taken
    pub holding : new.holding ≡ old.holding

  -- A call of a peer, for which a map may have to be made, is left in the queue, with what the host knows, and nothing
  -- is replied.
  pub record Forwards (peer : Peer) (message : List ℕ) (answer : Option (List ℕ)) (old new : Mailing H) : Type 0 where
    pub makes : may_make Datagram peer message ≡ true
    pub answer_is : answer ≡ None
    pub host : new.host ≡ old.host
    pub waits : new.waiting ≡ None
    pub holding : new.holding ≡ held_behind old.holding (Call peer message (conduct.seen old.host).known ∷ []) []

  -- A datagram of a peer is heard: it is answered, or left.
  abbrev pub Hears : Peer → List ℕ → Option (List ℕ) → Mailing H → Mailing H → Type 0
  Hears peer message answer old new = Answers peer message answer old new ⊎ Forwards peer message answer old new

-- a host counts so
module _ {H T : Type 0} (conduct : Conduct H) (counted : H → T) where
  -- In a quiet turn the host was told what others showed, or not.
  pub record Rests (old new : Mailing H) : Type 0 where
    pub told : IsTold conduct counted old.host new.host
    pub waiting : new.waiting ≡ old.waiting
    pub holding : new.holding ≡ old.holding

  abbrev pub mail_ways : Ways (Mailing H)
  mail_ways = ways_of (Goes conduct) (Hears conduct) Rests
