-- One request of a push: a slave is asked to fetch a map (yppush; ypreq_xfr of yp.x).
use Rattle.std.specs.Prelude.{◌≡◌, ◌⊎◌, ℕ, ◌+◌, ◌≤◌, min, Bool, true, false, List, Option, Some, None, Result, Ok, Err}
use Rattle.yp_io.specs.Counts.{HasRisen, last_count}
use Rattle.yp_io.specs.declared.stream.Peer.{Peer}
use Rattle.yp_io.specs.Dials.{Wires, DialTells, connected, WireComes, GoesBack}
use Rattle.yp_xdr.specs.Kind.{Value}
use Rattle.yp_messages.specs.declared.transfer.XfrStat.{XfrStat}
use Rattle.yp_messages.specs.declared.transfer.XfrStat.TheVariants.{Succ}
use Rattle.yp_messages.specs.Transfers.{req_xfr}
use Rattle.yp_board.specs.Catalogues.{Name}
use Rattle.yp_client.specs.declared.fault.ClientFault.{ClientFault}
use Rattle.yp_client.specs.declared.fault.ClientFault.TheVariants.{NoMemory}
use Rattle.yp_client.specs.Asked.{xfr_call}
use Rattle.yp_client.specs.Calls.{Calls}
use Rattle.yp_client.specs.Limits.{reply_max}
use Rattle.yp_client.specs.Results.{taken_of}
use Rattle.yp_client.specs.Said.{SaysStat}
use Rattle.yp_client.specs.States.{ClientState, IsFirst}
use Rattle.yp_push.specs.declared.event.Event.TheVariants.{Failed, Refused}
use Rattle.yp_push.specs.declared.outcome.Missed.TheVariants.{Rpc, Maddr}
use Rattle.yp_push.specs.Ledgers.{Ledger, with_event}
use Rattle.yp_push.specs.turns.Callbacks.{program}

-- what slaves are asked: the map, its order, the host that has it, and the port at which they tell how it went
pub record Request : Type 0 where
  pub store : Name
  pub order : ℕ
  pub name : List ℕ
  pub port : ℕ

-- the arguments of XFR with a transaction
abbrev pub xfr_of : Request → ℕ → Value req_xfr
xfr_of request transid =
    (request.store.0, (request.store.1, (request.order, (request.name, (transid, (program, request.port))))))

-- what a slave answered at once, or why it didn't
abbrev pub SlaveAnswer : Type 0
SlaveAnswer = Result XfrStat ClientFault

-- memory ran out
abbrev pub starves : SlaveAnswer → Bool
starves (Err NoMemory) = true
starves answer = false

-- No wire came.
pub record IsNotDialed (old new : DialTells) : Type 0 where
  pub none : new.past ≡ old.past
  pub letters : new.letters ≡ old.letters
  pub cause : HasRisen old.faults new.faults

-- XFR was called on a wire, with the number 1; or memory ran out for a client, and the wire stays.
abbrev pub IsCalled : Value req_xfr → SlaveAnswer → ClientState → ClientState → Type 0
IsCalled request answer first last =
    Calls reply_max (xfr_call request) (SaysStat taken_of) answer first last
    ⊎ ((answer ≡ Err NoMemory) × (last ≡ first))

-- One wire to this peer came, XFR was called on it, and it went back: its faults are counted as those of the dial. The
-- dial tells what its input and its output were at first, and what they were when it went back.
pub record IsAsked (peer : Peer) (request : Value req_xfr) (answer : SlaveAnswer) (old new : DialTells) : Type 0 where
  pub first : ClientState
  pub last : ClientState
  pub middle : Option Wires
  pub comes : WireComes (connected peer first.wire.input first.wire.output) old.past middle
  pub begins : IsFirst first
  pub calls : IsCalled request answer first last
  pub goes_back : GoesBack last.wire middle new.past
  pub letters : new.letters ≡ old.letters
  pub counted : min (old.faults + (last.reads + last.writes)) last_count ≤ new.faults

-- A ledger has an answer: where it is SUCC, or memory ran out, nothing, another status as the slave's own, and a fault
-- as a failure.
abbrev pub IsNoted : ℕ → SlaveAnswer → Ledger → Ledger → Type 0
IsNoted slave (Ok Succ) old new = new ≡ old
IsNoted slave (Ok stat) old new = new ≡ with_event old (Refused slave stat)
IsNoted slave (Err NoMemory) old new = new ≡ old
IsNoted slave (Err fault) old new = new ≡ with_event old (Failed slave Rpc)

-- what a push tells at a moment: its ledger, and what its dial tells
pub record PushTells : Type 0 where
  pub ledger : Ledger
  pub dial : DialTells

abbrev pub push_tells : Ledger → DialTells → PushTells
push_tells ledger dial = record { ledger = ledger; dial = dial }

-- A slave that has an address was asked: no wire came, or one did and has an answer. The bytes of the wire fix the
-- answer, unless the wire failed or memory ran out.
pub record SlaveIsAnswered (peer : Peer) (request : Value req_xfr) (slave : ℕ) (starved : Bool) (old new : PushTells)
    : Type 0 where
  pub answer : SlaveAnswer
  pub asked : IsAsked peer request answer old.dial new.dial
  pub noted : IsNoted slave answer old.ledger new.ledger
  pub memory : starved ≡ starves answer

-- no wire came for a slave, and the ledger has that
pub record IsMissed (slave : ℕ) (starved : Bool) (old new : PushTells) : Type 0 where
  pub not_dialed : IsNotDialed old.dial new.dial
  pub noted : new.ledger ≡ with_event old.ledger (Failed slave Rpc)
  pub memory : starved ≡ false

-- One without an address wasn't asked; the dial stays.
abbrev pub ReachesSlave : Option Peer → Value req_xfr → (slave : ℕ) → (starved : Bool) → (old new : PushTells) → Type 0
ReachesSlave None request slave starved old new =
    (new.dial ≡ old.dial) × (new.ledger ≡ with_event old.ledger (Failed slave Maddr)) × (starved ≡ false)
ReachesSlave (Some peer) request slave starved old new =
    IsMissed slave starved old new ⊎ SlaveIsAnswered peer request slave starved old new
