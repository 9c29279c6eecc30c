-- A walk and its source, under any schedule: the source handles a copy of any call that was asked, any number of times
-- and in any order, on what it knows then; any mail that it has sent is delivered, any number of times, and mail of
-- others, too.
use Rattle.std.specs.Prelude.{◌≡◌, ℕ, ◌==◌, ◌&&◌, bytes_eq, List, [], ◌∷◌, IsTrue, Contains, Bool}
use Rattle.yp_io.specs.declared.stream.Peer.{Peer}
use Rattle.yp_board.specs.Catalogues.{Catalogue}
use Rattle.yp_board.specs.Logs.{Log}
use Rattle.yp_board.specs.Views.{IsFront}
use Rattle.yp_answer.specs.declared.procedure.Path.TheVariants.{Datagram}
use Rattle.yp_answer.specs.Served.{maps_on}
use Rattle.yp_answer.specs.Reply.{Response, Bytes, reply}
use Rattle.yp_transfer.specs.Fetching.{Wanted}
use Rattle.yp_transfer.specs.walk.Standings.{IsAsking}
use Rattle.yp_transfer.specs.walk.Schedules.{Walking, Delivery, outstanding, heard, begun}

-- What happens: the source handles a copy of a call, on a front of its log; a mail is delivered; a turn is quiet.
pub data Event : Type 0 where
  Handles : (call : List ℕ) (front : Log) → Event
  Delivers : (delivered : Delivery) → Event
  Rests : Event

-- the mails that were delivered
abbrev pub deliveries_of : List Event → List Delivery
deliveries_of [] = []
deliveries_of (Delivers delivered ∷ events) = delivered ∷ deliveries_of events
deliveries_of (Handles call front ∷ events) = deliveries_of events
deliveries_of (Rests ∷ events) = deliveries_of events

-- the walk, the calls that it has asked so far, what its source knows, and the mails that this has sent
pub record WalkExchange : Type 0 where
  pub walk : Walking
  pub asked : List (List ℕ)
  pub front : Log
  pub sent : List (List ℕ)

-- a walk of which nothing was heard, and a source that knows a log
abbrev pub first_scene : Peer → Wanted → Log → WalkExchange
first_scene source wanted log = record {
  walk = begun source wanted;
  asked = outstanding (begun source wanted) ∷ [];
  front = log;
  sent = [];
}

-- a mail comes from the source
abbrev pub is_from : Peer → Delivery → Bool
is_from source delivered = bytes_eq delivered.0.addr source.addr && (delivered.0.port == source.port)

-- the mails that were sent, where a call got this: a transfer or a map that is made isn't asked for
abbrev pub with_reply : Response → List (List ℕ) → List (List ℕ)
with_reply (Bytes bytes) sent = bytes ∷ sent
with_reply response sent = sent

-- the walk heard a mail, and what it then asks is asked
abbrev pub hearing : WalkExchange → Delivery → WalkExchange
hearing scene delivered = record scene {
  walk = heard scene.walk delivered;
  asked = outstanding (heard scene.walk delivered) ∷ scene.asked;
}

module _ (catalogue : Catalogue) (caller : Peer) where
  -- A source with this catalogue answers the caller, and its log grows.
  abbrev pub Happens : Event → WalkExchange → WalkExchange → Type 0
  Happens (Handles call front) old new =
      Contains old.asked call × IsFront old.front front
      × (new ≡ record old {
        front = front;
        sent = with_reply (reply Datagram (maps_on catalogue front) caller call) old.sent;
      })
  Happens (Delivers delivered) old new =
      IsAsking old.walk.standing
      × (IsTrue (is_from old.walk.source delivered) → Contains old.sent delivered.1)
      × (new ≡ hearing old delivered)
  Happens Rests old new = new ≡ old

  -- These events happen, one after the other.
  abbrev pub AllHappen : List Event → WalkExchange → WalkExchange → Type 0
  AllHappen [] old new = new ≡ old
  AllHappen (event ∷ events) old new = (next : WalkExchange) × Happens event old next × AllHappen events next new
