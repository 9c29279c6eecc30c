-- A conversation over a wire that is never waited for: a run of records that may be cut anywhere.
use Rattle.std.specs.Prelude.{◌≡◌, ◌≤◌, ◌⊎◌, ℕ, Bool, true, false, IsTrue, List, [], ◌∷◌, ◌++◌, length, map, flat_map}
use Rattle.std.specs.Prelude.{Option, None, Some, ⊤}
use Rattle.std.specs.Io.KnownBytes.{Appends, Consumes, IsAtEnd, append_known}
use Rattle.yp_io.specs.Counts.{HasRisen, capped}
use Rattle.yp_io.specs.declared.stream.Peer.{Peer}
use Rattle.yp_rpc.specs.Records.{Fragments, IsTorn, IsLong, IsUnfinished}
use Rattle.yp_answer.specs.Numbers.{record_max}
use Rattle.yp_answer.specs.Transfer.{Taken}
use Rattle.yp_answer.specs.declared.procedure.Path.TheVariants.{Stream}
use Rattle.yp_answer.specs.declared.session.session.End.{End}
use Rattle.yp_answer.specs.declared.session.session.End.TheVariants.{Clean, Torn, TooLong, ReadFault, WriteFault, Enough}
use Rattle.yp_answer.specs.session.Progress.{Progress}
use Rattle.yp_answer.specs.session.Wires.{Wire}
use Rattle.yp_answer.specs.session.Hosts.{Conduct, Turn, Link, CarriesOut}
use Rattle.yp_answer.specs.session.Runs.{sent_reply}

-- ---- what happens in a conversation

-- a record was answered; the transfer that the last one took was carried out, or more was read, while the wire told
-- this
pub data Deed : Type 0 where
  Answered : (turn : Turn) → Deed
  Carried : (taken : Taken) (wire : Wire) → Deed
  Read : (wire : Wire) → Deed

-- the records that were answered
abbrev pub turns_of : List Deed → List Turn
turns_of [] = []
turns_of (Answered turn ∷ deeds) = turn ∷ turns_of deeds
turns_of (Carried taken wire ∷ deeds) = turns_of deeds
turns_of (Read wire ∷ deeds) = turns_of deeds

-- the transfer that waits behind these, where this one waited before them
abbrev pub waiting_behind : Option Taken → List Deed → Option Taken
waiting_behind waiting [] = waiting
waiting_behind waiting (Answered turn ∷ deeds) = waiting_behind turn.taken deeds
waiting_behind waiting (Carried taken wire ∷ deeds) = waiting_behind None deeds
waiting_behind waiting (Read wire ∷ deeds) = waiting_behind waiting deeds

-- what is sent for records that were answered
abbrev pub sent_over : List Turn → List ℕ
sent_over turns = flat_map (λ turn. sent_reply turn.answer) turns

-- What was sent was passed on; where nothing was to be sent, the sink is as it was.
abbrev pub IsPassedOn : List ℕ → Bool → Bool → Type 0
IsPassedOn bytes old new = IsTrue new ⊎ ((bytes ≡ []) × (new ≡ old))

-- All that is sent for these records went out, and was passed on.
pub record IsPaidUp (start : Wire) (turns : List Turn) (now : Wire) : Type 0 where
  pub sent : Appends start.sink.output now.sink.output (sent_over turns)
  pub passed_on : IsPassedOn (sent_over turns) start.sink.flushed now.sink.flushed

-- Deeds in their order: more is read, and a transfer carried out, only where the replies to all records before went
-- out. While a transfer waits, nothing else is done.
abbrev pub AreInOrder : Wire → List Turn → Option Taken → List Deed → Type 0
AreInOrder start turns waiting [] = ⊤
AreInOrder start turns waiting (Answered turn ∷ deeds) =
    (waiting ≡ None) × AreInOrder start (turns ++ turn ∷ []) turn.taken deeds
AreInOrder start turns waiting (Carried taken wire ∷ deeds) =
    (waiting ≡ Some taken) × IsPaidUp start turns wire × AreInOrder start turns None deeds
AreInOrder start turns waiting (Read wire ∷ deeds) =
    (waiting ≡ None) × IsPaidUp start turns wire × AreInOrder start turns waiting deeds

-- ---- what a host does for it

module _ {H : Type 0} (conduct : Conduct H) (peer : Peer) where
  -- A record got its link, before its reply was out; a transfer was carried out; and reading is nothing to the host.
  abbrev pub DoesDeed : Deed → H → H → Type 0
  DoesDeed (Answered turn) old new = (turn.flushed ≡ false) × Link conduct Stream peer turn old new
  DoesDeed (Carried taken wire) old new = CarriesOut conduct taken peer old new
  DoesDeed (Read wire) old new = new ≡ old

-- ---- a conversation at a moment

-- a conversation as its wire tells it: how far records were read, what came behind them, what is owed to the sink, what
-- is still to be sent of the reply that is open, the transfer that waits until its reply is out, whether all is paid
-- and passed on, and whether memory ran out in a reply
pub record Cut : Type 0 where
  pub wire : Wire
  pub progress : Progress
  pub incoming : List ℕ
  pub owed : List ℕ
  pub rest : List ℕ
  pub waiting : Option Taken
  pub settled : Bool
  pub broken : Bool

-- bytes are these records, one after the other, each in fragments
abbrev pub AreFramed : List (List ℕ) → List ℕ → Type 0
AreFramed [] bytes = bytes ≡ []
AreFramed (message ∷ messages) bytes =
    (first : List ℕ) × (rest : List ℕ) × Fragments record_max message first × (bytes ≡ first ++ rest)
    × AreFramed messages rest

-- the messages of records that were answered
abbrev pub messages_of : List Turn → List (List ℕ)
messages_of turns = map (λ turn. turn.message) turns

-- the bytes that went out and are owed, where the sink tells its own
abbrev pub written : Cut → Option (List ℕ)
written now = append_known now.wire.sink.output now.owed

-- A conversation that began at this wire is cut here: these are its deeds. What was read is whole records, and what
-- came behind them. What was put, which went out or is owed, and what is left of the reply that is open, are the
-- replies to all of them; where memory ran out in a reply, some of that is lost.
pub record IsCut (start : Wire) (deeds : List Deed) (now : Cut) : Type 0 where
  pub spelled : List ℕ
  pub framed : AreFramed (messages_of (turns_of deeds)) spelled
  pub read : Consumes start.source.input now.wire.source.input (spelled ++ now.incoming)
  pub place : now.progress.place ≡ capped 0 (length spelled)
  pub calls : now.progress.calls ≡ capped 0 (length (turns_of deeds))
  pub put : List ℕ
  pub lost : List ℕ
  pub wrote : Appends start.sink.output (written now) put
  pub replied : sent_over (turns_of deeds) ≡ put ++ (now.rest ++ lost)
  pub whole : now.broken ≡ false → lost ≡ []
  pub settled : now.settled ≡ true → (now.owed ≡ []) × (now.rest ≡ []) × (now.broken ≡ false)
      × IsPassedOn (sent_over (turns_of deeds)) start.sink.flushed now.wire.sink.flushed
  pub order : AreInOrder start [] None deeds
  pub waits : now.waiting ≡ waiting_behind None deeds
  pub faults : start.source.faults ≤ now.wire.source.faults

-- ---- its end

-- All is paid, and no transfer waits.
pub record IsAtRest (now : Cut) : Type 0 where
  pub settled : now.settled ≡ true
  pub waiting : now.waiting ≡ None

-- why a conversation of at most so many records ends
abbrev pub EndsSo : ℕ → End → Cut → Type 0
EndsSo most Clean now = IsAtRest now × (now.incoming ≡ []) × IsAtEnd now.wire.source.input
EndsSo most (Torn at) now =
    (at ≡ now.progress.place) × IsAtRest now × IsTorn record_max now.incoming × IsAtEnd now.wire.source.input
EndsSo most (TooLong at) now = (at ≡ now.progress.place) × IsAtRest now × IsLong record_max now.incoming
EndsSo most ReadFault now =
    IsAtRest now × IsUnfinished record_max now.incoming × HasRisen 0 now.wire.source.faults
EndsSo most WriteFault now = (now.settled ≡ false) × HasRisen 0 now.wire.sink.faults
EndsSo most Enough now = IsAtRest now × (now.progress.calls ≡ most)
