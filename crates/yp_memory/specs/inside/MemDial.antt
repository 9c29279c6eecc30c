-- What a dial in memory keeps.
use Rattle.std.specs.Prelude.{ℕ, Bool, List, [], ◌∷◌, map, Option, None, Some, Result, Ok, Err, Vec, option_map, ⊤}
use Rattle.std.specs.Prelude.{if◌then◌else◌}
use Rattle.std.specs.declared.alloc.Global.{Global}
use Rattle.yp_io.specs.declared.stream.Pair.{Pair}
use Rattle.yp_io.specs.declared.stream.Peer.{Peer}
use Rattle.yp_io.specs.declared.stream.Failed.{Failed}
use Rattle.yp_io.specs.declared.dial.Sending.{Sending as Kept}
use Rattle.yp_io.specs.declared.dial.Sending.TheVariants as kept
use Rattle.yp_memory.specs.declared.dial.MemDialed.{MemDialed}
use Rattle.yp_memory.specs.inside.Mem.{Feed, Drain}
use Rattle.yp_io.specs.Dials.{Wires, Sending, Posted, Asked, Connected, connected, WireState, wire_state, IsFresh}
use Rattle.yp_io.specs.Inboxes.{HoldsFront}

-- a wire in memory
abbrev pub Wire : Type 0
Wire = Pair Feed Drain

-- a dial: the wires that will come, and the answers, the peer and the input of each wire that came, those that were
-- given back, whether one more was, what was sent, and which calls fail
pub record Exchange : Type 0 where
  pub waiting : List Wire
  pub answers : List (Option (List ℕ))
  pub came : List (Peer × List ℕ)
  pub back : List Wire
  pub lost : Bool
  pub letters : List Sending
  pub failing : List ℕ
  pub calls : ℕ
  pub faults : ℕ

-- an answer that is planned, or none
abbrev pub answer_of : Option (Vec ℕ Global) → Option (List ℕ)
answer_of answer = option_map (λ bytes. bytes.items) answer

-- what is told of what was sent
abbrev pub sending_of : Kept → Sending
sending_of (kept.Posted letter) = Posted letter.peer letter.bytes.items
sending_of (kept.Asked letter answer) = Asked letter.peer letter.bytes.items (answer_of answer)

-- the first answer of those to come; behind the last none comes
abbrev pub first_answer : List (Option (List ℕ)) → Option (List ℕ)
first_answer [] = None
first_answer (answer ∷ answers) = answer

-- the answers behind the first one
abbrev pub answers_behind : List (Option (List ℕ)) → List (Option (List ℕ))
answers_behind [] = []
answers_behind (answer ∷ answers) = answers

-- the answers that are left: a question that was sent takes one
abbrev pub answers_left : List (Option (List ℕ)) → Result (Option ℕ) Failed → List (Option (List ℕ))
answers_left answers (Ok came) = answers_behind answers
answers_left answers (Err why) = answers

-- What came is this, as far as it fits the buffer.
abbrev pub HoldsAnswer : Option (List ℕ) → Option ℕ → List ℕ → Type 0
HoldsAnswer None None buf = ⊤
HoldsAnswer (Some bytes) (Some len) buf = HoldsFront bytes len buf
HoldsAnswer answer came buf = ⊥

abbrev pub came_of : MemDialed → Peer × List ℕ
came_of wire = (wire.peer, wire.input.items)

-- what is told of a wire that came
abbrev pub connected_of : Peer × List ℕ → Connected
connected_of came = connected came.0 (Some came.1) (Some [])

-- what a wire tells when it is given back
abbrev pub ended_of : Wire → WireState
ended_of wire = wire_state (Some wire.source.input) (Some wire.sink.output) wire.sink.flushed

-- its wires, unless one was lost
abbrev pub wires_of : Exchange → Option Wires
wires_of dial =
    if dial.lost then None else Some (record { came = map connected_of dial.came; back = map ended_of dial.back })

-- a wire that has met no fault and taken nothing
abbrev pub WireIsNew : Wire → Type 0
WireIsNew wire = IsFresh wire.source.faults wire.sink.faults (Some wire.sink.output)
