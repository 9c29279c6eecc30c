-- A push in its turns (yppush): what it does before each, and what it hears.
use Rattle.std.specs.Prelude.{◌≡◌, ◌⊎◌, ℕ, Bool, true, false, List, [], Option, Some, None, slice_index_or}
use Rattle.yp_io.specs.declared.stream.Peer.{Peer}
use Rattle.yp_io.specs.Dials.{DialTells}
use Rattle.yp_rpc.specs.Turns.{Want, Letter, Turn, Nothing, Ways, ways_of}
use Rattle.yp_push.specs.declared.event.Event.TheVariants.{Sent, Quiet}
use Rattle.yp_push.specs.declared.ledger.Sending.{Sending}
use Rattle.yp_push.specs.Ledgers.{Ledger, with_event, next_sending, PushIsDone}
use Rattle.yp_push.specs.turns.Callbacks.{asked_by, reply_to, LedgerIsTold}
use Rattle.yp_push.specs.turns.Sendings.{Request, xfr_of, push_tells, ReachesSlave}

-- a slave: its name, and its address, where that is known
abbrev pub Slave : Type 0
Slave = List ℕ × Option Peer

-- a push: its dial, its ledger, the slaves in their order, what they are asked, and whether memory ran out
pub record Pushing (A : Type 0) : Type 0 where
  pub dial : A
  pub ledger : Ledger
  pub slaves : List Slave
  pub request : Request
  pub starved : Bool

-- the address of the slave with this number
abbrev pub address_of : List Slave → ℕ → Option Peer
address_of slaves slave = (slice_index_or slaves slave ([], None)).1

-- A slave that was sent to was asked, where it has an address, and the ledger has what came of it.
pub record HasAskedSlave {A : Type 0} (tells : A → DialTells) (sending : Sending) (old new : Pushing A) : Type 0 where
  pub reaches : ReachesSlave (address_of old.slaves sending.slave) (xfr_of old.request sending.transid) sending.slave
      new.starved (push_tells old.ledger (tells old.dial)) (push_tells new.ledger (tells new.dial))
  pub stays : new ≡ record old { dial = new.dial; ledger = new.ledger; starved = new.starved }

-- the ledger has that a slave was sent to
abbrev pub sent_to : {A : Type 0} → Pushing A → Sending → Pushing A
sent_to pushing sending = record pushing { ledger = with_event pushing.ledger (Sent sending.slave) }

-- The next slave was sent to.
pub record SendsNext {A : Type 0} (tells : A → DialTells) (sending : Sending) (old new : Pushing A) : Type 0 where
  pub next : next_sending old.ledger ≡ Some sending
  pub reached : HasAskedSlave tells sending (sent_to old sending) new

-- Slaves were sent to in their order, each the next one. Where memory ran out, none was behind that.
pub data SendsAll {A : Type 0} (tells : A → DialTells) : Pushing A → Pushing A → Type 0 where
  sends_none : (pushing : Pushing A) → SendsAll tells pushing pushing
  sends_more : (sending : Sending) (old middle new : Pushing A) → SendsAll tells old middle → middle.starved ≡ false
      → SendsNext tells sending middle new → SendsAll tells old new

-- no slave is to be sent to now
abbrev pub IsSentOut : {A : Type 0} → Pushing A → Type 0
IsSentOut pushing = (pushing.starved ≡ false) × (next_sending pushing.ledger ≡ None)

-- Then a turn is wanted, where something is expected of a slave. The push is done where nothing is, or memory ran out.
abbrev pub Then : {A : Type 0} → Want → Pushing A → Type 0
Then (Letter to bytes) pushing = ⊥
Then Turn pushing = IsSentOut pushing × ¬ PushIsDone pushing.ledger
Then Nothing pushing = (pushing.starved ≡ true) ⊎ (IsSentOut pushing × PushIsDone pushing.ledger)

-- All slaves are sent to that may be, before each turn.
abbrev pub Goes : {A : Type 0} → (A → DialTells) → Pushing A → Want → Pushing A → Type 0
Goes tells old want new = SendsAll tells old new × Then want new

-- A datagram has the one reply of the push response program, and the ledger has what it tells.
abbrev pub Hears : {A : Type 0} → Peer → List ℕ → Option (List ℕ) → Pushing A → Pushing A → Type 0
Hears from mail reply old new =
    (reply ≡ reply_to (asked_by mail)) × LedgerIsTold (asked_by mail) old.ledger new.ledger
    × (new ≡ record old { ledger = new.ledger })

-- The ledger has a quiet turn.
abbrev pub Rests : {A : Type 0} → Pushing A → Pushing A → Type 0
Rests old new = new ≡ record old { ledger = with_event old.ledger Quiet }

abbrev pub pushing_ways : {A : Type 0} → (A → DialTells) → Ways (Pushing A)
pushing_ways tells = ways_of (Goes tells) Hears Rests
