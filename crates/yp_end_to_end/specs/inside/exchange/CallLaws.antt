-- What a call of a client answers, where its wire gives the reply of a server.
use Rattle.std.specs.Prelude.{◌≡◌, ℕ, Bool, false, List, Some, Result, Ok, Err, ⊤}
use Rattle.std.specs.Borrow.{Bor}
use Rattle.yp_messages.specs.declared.maplist.MapList.{MapList}
use Rattle.yp_client.specs.declared.answers.Row.{Row}
use Rattle.yp_io.specs.declared.stream.Peer.{Peer}
use Rattle.yp_version.specs.Drafts.{Draft}
use Rattle.yp_answer.specs.Maps.{Maps}
use Rattle.yp_client.specs.declared.fault.ClientFault.{ClientFault}
use Rattle.yp_client.specs.declared.fault.ClientFault.TheVariants.{ReadFault, WriteFault, NoMemory}
use Rattle.yp_client.specs.Limits.{all_max}
use Rattle.yp_client.specs.Asked.{all_call}
use Rattle.yp_client.specs.States.{ClientState}
use Rattle.yp_client.specs.Results.{Says, SaysInMemory}
use Rattle.yp_client.specs.Calls.{Calls}
use Rattle.yp_client.specs.All.{AllSaid, all_said, SaysAll}
use Rattle.yp_end_to_end.specs.inside.exchange.Served.{ReplyTells}
use Rattle.yp_end_to_end.specs.inside.exchange.Answered.{GivesReply}

-- The client has read the reply, and the input goes on with these bytes.
abbrev pub LeavesInput : List ℕ → ClientState → Type 0
LeavesInput rest new = new.wire.input ≡ Some rest

-- The result is what the server told, seen by `view`, unless the wire failed. Where it didn't, the bytes behind the
-- reply are left in the input.
abbrev pub AnswersAsTold : {X V : Type 0} → (X → V) → Result V ClientFault → List ℕ → Result X ClientFault
    → ClientState → Type 0
AnswersAsTold view expected rest (Err ReadFault) new = ⊤
AnswersAsTold view expected rest (Err WriteFault) new = ⊤
AnswersAsTold view expected rest (Ok x) new = (expected ≡ Ok (view x)) × LeavesInput rest new
AnswersAsTold view expected rest (Err fault) new = (expected ≡ Err fault) × LeavesInput rest new

-- The result is what the server told, seen by `view`, unless the wire failed or there was no memory for it.
abbrev pub AnswersInMemory : {X V : Type 0} → (X → V) → Result V ClientFault → List ℕ → Result X ClientFault
    → ClientState → Type 0
AnswersInMemory view expected rest (Err NoMemory) new = LeavesInput rest new
AnswersInMemory view expected rest answer new = AnswersAsTold view expected rest answer new

-- The result of ALL, and the rows in the builder, are what the server told, unless the wire failed or memory ran out.
abbrev pub AllAnswersAsTold : AllSaid → List ℕ → Draft → Result (Unit {0}) ClientFault → ClientState → Type 0
AllAnswersAsTold expected rest draft (Err ReadFault) new = ⊤
AllAnswersAsTold expected rest draft (Err WriteFault) new = ⊤
AllAnswersAsTold expected rest draft (Err NoMemory) new = LeavesInput rest new
AllAnswersAsTold expected rest draft answer new =
    (expected.draft ≡ draft) × (expected.end ≡ answer) × LeavesInput rest new

-- The wire of a client that isn't spent gives the reply to its next call, on these maps.
pub record GivesNextReply (maps : Maps) (peer : Peer) (limit : ℕ) (call : ℕ → List ℕ) (rest : List ℕ)
    (old : ClientState) : Type 0 where
  pub stream : List ℕ
  pub gives : GivesReply maps peer limit (call old.xid) stream (λ behind. behind ≡ rest)
  pub input : old.wire.input ≡ Some stream
  pub fresh : old.spent ≡ false

-- of calls whose answer takes no memory
abbrev pub AnswerIsTold : {X V : Type 0} → (X → V) → Type 0
AnswerIsTold {X} {V} view =
    (maps : Maps) (peer : Peer) (limit : ℕ) (call : ℕ → List ℕ) (said : ℕ → List ℕ → Result V ClientFault)
    (expected : Result V ClientFault) (rest : List ℕ) (answer : Result X ClientFault) (old new : ClientState)
    → GivesNextReply maps peer limit call rest old
    → ReplyTells maps peer limit (call old.xid) (said old.xid) expected
    → Calls limit call (λ xid message result. Says view (said xid message) result) answer old new
    → AnswersAsTold view expected rest answer new

-- as a number, a truth, bytes and a row, of which the last two are lent
abbrev pub NumberIsTold : Type 0
NumberIsTold = AnswerIsTold {X = ℕ} {V = ℕ} (λ n. n)

abbrev pub TruthIsTold : Type 0
TruthIsTold = AnswerIsTold {X = Bool} {V = Bool} (λ b. b)

abbrev pub BytesAreTold : Type 0
BytesAreTold = AnswerIsTold {X = Bor (List ℕ)} {V = List ℕ} (λ bytes. bytes.now)

abbrev pub RowIsTold : Type 0
RowIsTold = AnswerIsTold {X = Row} {V = List ℕ × List ℕ} (λ row. (row.value.now, row.key.now))

-- of a call that answers names, which it has in memory of their own
abbrev pub NamesAreTold : Type 0
NamesAreTold =
    (maps : Maps) (peer : Peer) (limit : ℕ) (call : ℕ → List ℕ)
    (said : ℕ → List ℕ → Result (List (List ℕ)) ClientFault)
    (expected : Result (List (List ℕ)) ClientFault) (rest : List ℕ) (answer : Result MapList ClientFault)
    (old new : ClientState)
    → GivesNextReply maps peer limit call rest old
    → ReplyTells maps peer limit (call old.xid) (said old.xid) expected
    → Calls limit call (λ xid message result. SaysInMemory (λ list. list.maps) (said xid message) result) answer old new
    → AnswersInMemory (λ list. list.maps) expected rest answer new

-- of ALL
abbrev pub RowsAreTold : Type 0
RowsAreTold =
    (maps : Maps) (peer : Peer) (domain map : List ℕ) (draft after : Draft) (expected : AllSaid) (rest : List ℕ)
    (answer : Result (Unit {0}) ClientFault) (old new : ClientState)
    → GivesNextReply maps peer all_max (all_call domain map) rest old
    → ReplyTells maps peer all_max (all_call domain map old.xid) (all_said draft old.xid) expected
    → Calls all_max (all_call domain map) (SaysAll draft after) answer old new
    → AllAnswersAsTold expected rest after answer new
