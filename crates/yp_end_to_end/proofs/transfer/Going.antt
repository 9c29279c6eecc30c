-- How a fetch by bytes goes on.
use Rattle.std.proofs.Common.{◌≡◌, ℕ, List, Option, Some, None, Result, Ok, Err, refl, sym, ap, ◌∙◌, subst, inl, inr}
use Rattle.yp_io.specs.declared.stream.Peer.{Peer}
use Rattle.yp_version.specs.Versions.{MapVersion}
use Rattle.yp_answer.specs.Maps.{Maps}
use Rattle.yp_client.specs.declared.fault.ClientFault.{ClientFault}
use Rattle.yp_end_to_end.specs.inside.exchange.Served.{ReplyTells}
use Rattle.yp_end_to_end.specs.inside.exchange.Answered.{GivesReply}
use Rattle.yp_transfer.specs.declared.fault.XfrFault.{XfrFault}
use Rattle.yp_transfer.specs.Fetching.{FetchOutcome, Course, Unless, ByAnswer, AsksThen, InMemory}
use Rattle.yp_transfer.specs.Fetched.{StreamPlace, ReadsReply, by_bytes}
use Rattle.yp_end_to_end.specs.transfer.Replies.{next_xid}
use Rattle.yp_end_to_end.proofs.transfer.Hearing.{Records, heard, told_answer}

-- nothing stands against it
pub goes : (cause : Option XfrFault) (follows : Course StreamPlace) (outcome : FetchOutcome) (old new : StreamPlace) → cause ≡ None
    → Unless cause follows outcome old new → follows outcome old new
goes None follows outcome old new none comes = comes
goes (Some fault) follows outcome old new none comes = absurd cc

-- the answer is a value
pub goes_by : {V : Type 0} (asked : Result V ClientFault → StreamPlace → StreamPlace → Type 0) (follows : V → Course StreamPlace)
    (outcome : FetchOutcome) (old new : StreamPlace) (asks : AsksThen asked follows outcome old new) (value : V)
    → asks.answer ≡ Ok value → follows value outcome asks.middle new
goes_by asked follows outcome old new asks value is =
    subst (λ (answer : Result _ ClientFault). ByAnswer follows answer outcome asks.middle new) is asks.goes_on

-- bytes want no memory
pub goes_in_memory : (follows : Course StreamPlace) (outcome : FetchOutcome) (old new : StreamPlace)
    → InMemory by_bytes follows outcome old new → follows outcome old new
goes_in_memory follows outcome old new (inl comes) = comes
goes_in_memory follows outcome old new (inr memory) = absurd memory.0

-- ---- where a version came of it

pub unless_ok : (cause : Option XfrFault) (follows : Course StreamPlace) (version : MapVersion) (old new : StreamPlace)
    → Unless cause follows (Ok version) old new → (cause ≡ None) × follows (Ok version) old new
unless_ok None follows version old new comes = (refl, comes)
unless_ok (Some fault) follows version old new comes = absurd (let is = comes.0 in cc)

pub record AskedOk {V : Type 0} (asked : Result V ClientFault → StreamPlace → StreamPlace → Type 0) (follows : V → Course StreamPlace)
    (version : MapVersion) (old new : StreamPlace) : Type 0 where
  pub value : V
  pub middle : StreamPlace
  pub answered : asked (Ok value) old middle
  pub follow : follows value (Ok version) middle new

asked_by : {V : Type 0} (asked : Result V ClientFault → StreamPlace → StreamPlace → Type 0) (follows : V → Course StreamPlace)
    (version : MapVersion) (old middle new : StreamPlace) (answer : Result V ClientFault) → asked answer old middle
    → ByAnswer follows answer (Ok version) middle new → AskedOk asked follows version old new
asked_by asked follows version old middle new (Ok value) answered follow =
    record { value = value; middle = middle; answered = answered; follow = follow }
asked_by asked follows version old middle new (Err fault) answered stops = absurd (let is = stops.0 in cc)

pub asked_ok : {V : Type 0} (asked : Result V ClientFault → StreamPlace → StreamPlace → Type 0) (follows : V → Course StreamPlace)
    (version : MapVersion) (old new : StreamPlace) → AsksThen asked follows (Ok version) old new
    → AskedOk asked follows version old new
asked_ok asked follows version old new asks =
    asked_by asked follows version old asks.middle new asks.answer asks.answered asks.goes_on

-- ---- one reply

pub record Stepped {V : Type 0} (expected answer : Result V ClientFault) (P : List ℕ → Type 0) (xid : ℕ) (new : StreamPlace)
    : Type 0 where
  pub answer_is : answer ≡ expected
  pub behind : P new.bytes
  pub xid_is : new.xid ≡ next_xid xid

module _ (laws : Records) {V : Type 0} (limit : ℕ) (call : ℕ → List ℕ) (said : ℕ → List ℕ → Result V ClientFault)
    (maps : Maps) (peer : Peer) (P : List ℕ → Type 0) (xid : ℕ) (old new : StreamPlace) (answer : Result V ClientFault)
    (at : old.xid ≡ xid) (gives : GivesReply maps peer limit (call xid) old.bytes P)
    (read : ReadsReply limit said answer old new) where
  given_here : GivesReply maps peer limit (call old.xid) old.bytes P
  given_here = subst (λ (x : ℕ). GivesReply maps peer limit (call x) old.bytes P) (sym at) gives

  pub passed : P new.bytes × (new.xid ≡ next_xid xid)
  passed =
      let one = heard laws maps peer limit (call old.xid) said answer P old new given_here read in
      (one.behind, one.xid_is ∙ ap next_xid at)

  pub stepped : (expected : Result V ClientFault) → ReplyTells maps peer limit (call xid) (said xid) expected
      → Stepped expected answer P xid new
  stepped expected tells = record {
    answer_is = told_answer laws maps peer limit (call old.xid) said answer P old new given_here expected
        (subst (λ (x : ℕ). ReplyTells maps peer limit (call x) (said x) expected) (sym at) tells) read;
    behind = passed.0;
    xid_is = passed.1;
  }
