-- A carrier: what it does of what servers of datagrams leave, beside their turns.
use Rattle.std.specs.Prelude.{◌≡◌, ◌≤◌, Bool, true, false, List, [], ◌∷◌, ◌++◌, length}
use Rattle.yp_io.specs.declared.stream.Peer.{Peer}
use Rattle.yp_io.specs.Inboxes.{InboxEvent}
use Rattle.yp_board.specs.Logs.{Log}
use Rattle.yp_board.specs.Views.{IsFront}
use Rattle.yp_answer.specs.declared.procedure.Path.TheVariants.{Datagram}
use Rattle.yp_answer.specs.session.Hosts.{Conduct, Turn, CarriesOut}
use Rattle.yp_answer.specs.session.Makes.{may_make}
use Rattle.yp_rpc.specs.Turns.{InboxTells, GainsAll, datagram_max}
use Rattle.yp_worker.specs.Working.{IsTold}
use Rattle.yp_worker.specs.datagrams.Mailing.{Awaited, Deferred, Transfer, Call, AnswersMail}
use Rattle.yp_worker.specs.datagrams.Serving.{reply_posts}

-- what a carrier did: it carried out a transfer, or it answered a call of a peer, whose server had known this much when
-- it left it
pub data CarrierStep : Type 0 where
  Carried : Awaited → CarrierStep
  Replied : Peer → Turn → (known : Log) → CarrierStep

-- what was left for a step
abbrev pub left_for : CarrierStep → Deferred
left_for (Carried one) = Transfer one
left_for (Replied peer turn known) = Call peer turn.message known

-- what is sent in a step, and in some, one after the other
abbrev pub sent_in : CarrierStep → List InboxEvent
sent_in (Carried one) = []
sent_in (Replied peer turn known) = reply_posts peer turn.answer

abbrev pub sent_over : List CarrierStep → List InboxEvent
sent_over [] = []
sent_over (step ∷ steps) = sent_in step ++ sent_over steps

-- the steps of a carrier, in their order: those whose replies were sent, and then the others
pub record CarrierRun : Type 0 where
  pub sent : List CarrierStep
  pub unsent : List CarrierStep

-- what is told of a carrier: its host, and the inbox that it sends replies from
pub record CarrierTells (H : Type 0) : Type 0 where
  pub host : H
  pub inbox : InboxTells

-- These letters were sent from an inbox, which took no turn.
pub record Sends (letters : List InboxEvent) (old new : InboxTells) : Type 0 where
  pub past : GainsAll letters old.past new.past
  pub turns : new.turns ≡ old.turns
  pub quiets : new.quiets ≡ old.quiets

module _ {H T : Type 0} (conduct : Conduct H) (counted : H → T) where
  -- A call of a peer was answered that had been left when this was known: a host was told what others showed, and that
  -- at least, before. A map that the call asks for was made.
  pub record AnswersLeft (peer : Peer) (turn : Turn) (known : Log) (old new : H) : Type 0 where
    pub makes : may_make Datagram peer turn.message ≡ true
    pub short : length turn.message ≤ datagram_max
    pub mid : H
    pub told : IsTold conduct counted old mid
    pub reached : IsFront known (conduct.seen mid).known
    pub answers : AnswersMail conduct peer turn mid new

  -- what a step does to the host
  abbrev pub TakesCarrierStep : CarrierStep → H → H → Type 0
  TakesCarrierStep (Carried one) old new = CarriesOut conduct one.0 one.1 old new
  TakesCarrierStep (Replied peer turn known) old new = AnswersLeft peer turn known old new

  -- steps, one after the other
  abbrev pub TakesCarrierSteps : List CarrierStep → H → H → Type 0
  TakesCarrierSteps [] old new = new ≡ old
  TakesCarrierSteps (step ∷ steps) old new =
      (mid : H) × TakesCarrierStep step old mid × TakesCarrierSteps steps mid new

  -- A host took these steps. The replies of the first ones were sent from an inbox, each behind its step. Where that
  -- hasn't failed there are no others; where it has, no reply of the others was sent.
  pub record Delivers (run : CarrierRun) (fault : Bool) (old new : CarrierTells H) : Type 0 where
    pub takes : TakesCarrierSteps (run.sent ++ run.unsent) old.host new.host
    pub sends : Sends (sent_over run.sent) old.inbox new.inbox
    pub whole : fault ≡ false → run.unsent ≡ []
