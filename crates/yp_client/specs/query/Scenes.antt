-- What a question does to a dial, and what it prints.
use Rattle.std.specs.Prelude.{◌≡◌, ℕ, false, List, [], Option, Some, None, Result, Ok, Err, IsOkAnd, IsSomeAnd}
use Rattle.std.specs.Io.KnownBytes.{Keeps, Appends}
use Rattle.yp_io.specs.declared.stream.Peer.{Peer}
use Rattle.yp_io.specs.Dials.{Wires, Dialing, dialing_of}
use Rattle.yp_client.specs.States.{ClientState}
use Rattle.yp_client.specs.Dialed.{IsDialed, IsNotDialed}
use Rattle.yp_client.specs.declared.query.fault.QueryFault.{QueryFault}
use Rattle.yp_client.specs.declared.query.fault.QueryFault.TheVariants.{NotMember, NotDone, Dial, Output, NoMemory}
use Rattle.yp_client.specs.declared.question.Question.TheVariants.{Pull, Make}
use Rattle.yp_client.specs.Questions.{ByteQuestion}
use Rattle.yp_messages.specs.declared.transfer.XfrStat.{XfrStat}
use Rattle.yp_io.specs.Streams.{AppendsFront}
use Rattle.yp_client.specs.query.Lines.{line, membership_text, status_text}
use Rattle.yp_client.specs.query.Asked.{Outcome, QueryOutcome, Converses}

-- what a dial and a sink tell: with that, what the sink has taken, and how often it has failed
pub record QueryTells : Type 0 where
  pub dial : Dialing
  pub output : Option (List ℕ)
  pub faults : ℕ

abbrev pub query_tells : {A K : Type 0} → (A → Option Wires) → (A → ℕ) → (K → Option (List ℕ)) → (K → ℕ) → A → K
    → QueryTells
query_tells past dial_faults output faults dial sink =
    record { dial = dialing_of past dial_faults dial; output = output sink; faults = faults sink }

-- ---- the dial

-- One wire to this peer came, these calls were made on it, and it went back.
pub record Exchanges {V : Type 0} (peer : Peer) (calls : Outcome V → ClientState → ClientState → Type 0)
    (outcome : Outcome V) (old new : Dialing) : Type 0 where
  pub first : ClientState
  pub last : ClientState
  pub dialed : IsDialed peer first last old new
  pub converses : calls outcome first last

-- No wire came; or one came and went back.
abbrev pub Dials : {V : Type 0} → Peer → (Outcome V → ClientState → ClientState → Type 0) → Outcome V → Dialing
    → Dialing → Type 0
Dials peer calls (Err Dial) old new = IsNotDialed old new
Dials peer calls outcome old new = Exchanges peer calls outcome old new

-- ---- both

-- the text of a status other than SUCC, which `pull` and `make` alone are told
abbrev pub refusal_text : ByteQuestion → XfrStat → List ℕ
refusal_text (Pull domain map source) status = line (status_text domain map status)
refusal_text (Make domain map) status = line (status_text domain map status)
refusal_text question status = []

-- the text of what the calls came to: that of an answer, and a no
abbrev pub outcome_text : ByteQuestion → QueryOutcome → Option (List ℕ)
outcome_text question (Ok text) = Some text
outcome_text question (Err NotMember) = Some (membership_text false)
outcome_text question (Err (NotDone status)) = Some (refusal_text question status)
outcome_text question (Err fault) = None

-- What is printed: the text, of which a sink that failed has taken a front, and nothing where there is none.
abbrev pub Prints : ByteQuestion → QueryOutcome → Result (Unit {0}) QueryFault → Option (List ℕ) → Option (List ℕ)
    → Type 0
Prints question outcome (Ok done) before after = IsOkAnd outcome (λ text. Appends before after text)
Prints question outcome (Err NotMember) before after =
    (outcome ≡ Err NotMember) × Appends before after (membership_text false)
Prints question outcome (Err (NotDone status)) before after =
    (outcome ≡ Err (NotDone status)) × Appends before after (refusal_text question status)
Prints question outcome (Err Output) before after =
    IsSomeAnd (outcome_text question outcome) (λ text. AppendsFront text before after)
Prints question outcome (Err NoMemory) before after = Keeps before after
Prints question outcome (Err fault) before after = (outcome ≡ Err fault) × Keeps before after

-- No wire came, and nothing was printed; or one to this peer came and went back, and what its calls came to was
-- printed.
abbrev pub Asks : Peer → ByteQuestion → Result (Unit {0}) QueryFault → QueryTells → QueryTells → Type 0
Asks peer question (Err Dial) old new = IsNotDialed old.dial new.dial × Keeps old.output new.output
Asks peer question result old new =
    (outcome : QueryOutcome) × Exchanges peer (Converses question) outcome old.dial new.dial
    × Prints question outcome result old.output new.output
