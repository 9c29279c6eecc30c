-- A session: each record is answered on what the host then knows, and only then the next is read.
use Rattle.std.specs.Prelude.{◌≡◌, ℕ, ◌<◌, Bool, true, false, IsTrue, List, [], ◌∷◌, ◌++◌, length, map, take, Option}
use Rattle.std.specs.Prelude.{Some, None}
use Rattle.std.specs.Io.KnownBytes.{Appends}
use Rattle.yp_io.specs.Counts.{HasRisen, next_count}
use Rattle.yp_io.specs.declared.stream.Peer.{Peer}
use Rattle.yp_rpc.specs.Records.{IsEmpty, TakesRecord, record_start, HasCause, sent}
use Rattle.yp_rpc.specs.declared.record.RecordFault.{RecordFault}
use Rattle.yp_rpc.specs.declared.record.RecordFault.TheVariants as faults
use Rattle.yp_answer.specs.declared.procedure.Path.TheVariants.{Stream}
use Rattle.yp_answer.specs.Numbers.{record_max}
use Rattle.yp_answer.specs.declared.session.session.End.{End}
use Rattle.yp_answer.specs.declared.session.session.End.TheVariants.{Clean, Torn, TooLong, ReadFault, WriteFault, Enough}
use Rattle.yp_answer.specs.declared.session.session.Step.{Step}
use Rattle.yp_answer.specs.declared.session.session.Step.TheVariants.{Answered, Ended}
use Rattle.yp_answer.specs.session.Progress.{Progress}
use Rattle.yp_answer.specs.session.Wires.{SinkTells, Wire, NeverFalls}
use Rattle.yp_answer.specs.session.Hosts.{Conduct, Turn, Link, counts_over}
use Rattle.yp_answer.specs.session.LogRuns.{LogRun}

-- a dialogue at a moment: its host, its wire, and what the session keeps
pub record Dialogue (H : Type 0) : Type 0 where
  pub host : H
  pub wire : Wire
  pub progress : Progress

abbrev pub dialogue_at : {H : Type 0} → H → Wire → Progress → Dialogue H
dialogue_at host wire progress = record { host = host; wire = wire; progress = progress }

-- what is sent for a reply, and nothing for silence
abbrev pub sent_reply : Option (List ℕ) → List ℕ
sent_reply None = []
sent_reply (Some message) = sent message

-- where there is a reply, the output is flushed
abbrev pub IsFlushed : Option (List ℕ) → Bool → Bool → Type 0
IsFlushed None old new = new ≡ old
IsFlushed (Some message) old new = IsTrue new

-- The whole reply went out and was flushed; or a front of it went out, and the sink failed.
abbrev pub SendsReply : Bool → Option (List ℕ) → SinkTells → SinkTells → Type 0
SendsReply true answer old new =
    Appends old.output new.output (sent_reply answer) × IsFlushed answer old.flushed new.flushed
SendsReply false answer old new =
    ((n : ℕ) × Appends old.output new.output (take n (sent_reply answer))) × HasRisen old.faults new.faults

-- No record was read, and nothing but the source changed.
pub record IsIdle {H : Type 0} (old new : Dialogue H) : Type 0 where
  pub host : new.host ≡ old.host
  pub progress : new.progress ≡ old.progress
  pub sink : new.wire.sink ≡ old.wire.sink
  pub never_falls : NeverFalls old.wire new.wire

-- There is no record, for this reason.
abbrev pub Lacks : {H : Type 0} → RecordFault → Dialogue H → Dialogue H → Type 0
Lacks fault old new =
    HasCause (record_start record_max old.progress.place old.wire.source.input) new.wire.source.input
    old.wire.source.faults new.wire.source.faults fault × IsIdle old new

module _ {H : Type 0} (conduct : Conduct H) (peer : Peer) where
  -- A record got its link, and its whole reply was flushed, or wasn't.
  pub record RepliesTo (flushed : Bool) (turn : Turn) (old new : H) (before after : SinkTells) : Type 0 where
    pub link : Link conduct Stream peer turn old new
    pub flush : turn.flushed ≡ flushed
    pub sends : SendsReply flushed turn.answer before after

  -- A record was read and got its reply.
  pub record AnswersRecord (flushed : Bool) (turn : Turn) (old new : Dialogue H) : Type 0 where
    pub taken : TakesRecord record_max turn.message old.wire.source.input new.wire.source.input
        old.progress.place new.progress.place
    pub calls : new.progress.calls ≡ next_count old.progress.calls
    pub replied : RepliesTo flushed turn old.host new.host old.wire.sink new.wire.sink
    pub never_falls : NeverFalls old.wire new.wire

  -- What a step does: it answers a record, or ends before one, or in a reply that the output didn't take whole.
  abbrev pub DoesStep : Step → Dialogue H → Dialogue H → Type 0
  DoesStep Answered old new = (turn : Turn) × AnswersRecord true turn old new
  DoesStep (Ended WriteFault) old new = (turn : Turn) × AnswersRecord false turn old new
  DoesStep (Ended Clean) old new = IsEmpty old.wire.source.input new.wire.source.input × IsIdle old new
  DoesStep (Ended (Torn at)) old new = Lacks (faults.Torn at) old new
  DoesStep (Ended (TooLong at)) old new = Lacks (faults.TooLong at) old new
  DoesStep (Ended ReadFault) old new = Lacks faults.ReadFault old new
  DoesStep (Ended Enough) old new = ⊥

  -- Records were answered one after the other: what came of each, and the dialogue behind it.
  abbrev pub Chain : List (Turn × Dialogue H) → Dialogue H → Dialogue H → Type 0
  Chain [] old new = new ≡ old
  Chain (one ∷ later) old new = AnswersRecord true one.0 old one.1 × Chain later one.1 new

  -- what ends a run of at most so many records behind so many: a step, or nothing behind the most
  abbrev pub Ends : ℕ → ℕ → End → Dialogue H → Dialogue H → Type 0
  Ends most count Enough old new = (count ≡ most) × (new ≡ old)
  Ends most count end old new = (count < most) × DoesStep (Ended end) old new

  -- what came of a record whose reply didn't go out whole
  abbrev pub unsent : (most count : ℕ) (end : End) (old new : Dialogue H) → Ends most count end old new → List Turn
  unsent most count WriteFault old new ends = ends.1.0 ∷ []
  unsent most count end old new ends = []

  -- A session of at most so many records, each answered before the next was read, that ended so. What came of each is
  -- told, and so are the wires behind those that were answered, which fix their records and replies.
  pub record Runs (most : ℕ) (end : End) (old new : Dialogue H) (wires : List Wire) : Type 0 where
    pub answered : List (Turn × Dialogue H)
    pub last : Dialogue H
    pub chain : Chain answered old last
    pub ends : Ends most (length answered) end last new
    pub watched : wires ≡ map (λ one. one.1.wire) answered
    pub turns : List Turn
    pub all : turns ≡ map (λ one. one.0) answered ++ unsent most (length answered) end last new ends
    pub calls : new.progress.calls ≡ length turns
    pub counted : conduct.counts new.host ≡ counts_over (conduct.counts old.host) turns
    pub on_logs : LogRun (conduct.seen old.host).catalogue Stream peer turns
        (conduct.seen old.host).known (conduct.seen new.host).known
