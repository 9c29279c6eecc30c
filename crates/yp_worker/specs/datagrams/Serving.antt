-- What a server makes of the turns of an inbox, and what goes out for what comes in.
use Rattle.std.specs.Prelude.{◌≡◌, ◌⊎◌, ◌<◌, ◌≤◌, ℕ, Bool, true, List, [], ◌∷◌, ◌++◌, length, fold, Option, None, Some}
use Rattle.std.specs.Prelude.{IsSome, Result, Ok, Err, option_map}
use Rattle.yp_io.specs.declared.stream.Peer.{Peer}
use Rattle.yp_io.specs.declared.stream.Failed.{Failed}
use Rattle.yp_io.specs.Inboxes.{InboxEvent, Arrived, Silent, Sent}
use Rattle.yp_board.specs.Logs.{Log}
use Rattle.yp_board.specs.Views.{IsFront}
use Rattle.yp_answer.specs.declared.procedure.Path.TheVariants.{Datagram}
use Rattle.yp_answer.specs.session.Hosts.{Counts, Conduct, Turn, counts_behind, counts_carried}
use Rattle.yp_answer.specs.session.Makes.{may_make}
use Rattle.yp_rpc.specs.Turns.{InboxTells, Runs, Sees, datagram_max}
use Rattle.yp_rpc.specs.declared.turns.Ended.{Ended}
use Rattle.yp_rpc.specs.declared.turns.Ended.TheVariants.{Done, Spent}
use Rattle.yp_worker.specs.Working.{IsTold}
use Rattle.yp_worker.specs.datagrams.Mailing.{Awaited, Deferred, Call, Mailing, AnswersMail, CarriesAll, Closes}
use Rattle.yp_worker.specs.datagrams.Mailing.{carried_where, left_where, held_behind, mail_ways}

-- what a server makes of a turn: a datagram that is too long is dropped; in a quiet turn its host may be told what
-- others showed; a call for which a map may have to be made is left for a carrier, with what the host knew, or is
-- answered, as any other datagram is. Behind the reply to a datagram that took a transfer the server carries this out,
-- where that is said, or else leaves it.
pub data MailTurn : Type 0 where
  Dropped : Peer → List ℕ → MailTurn
  Rested : MailTurn
  Answered : Peer → Turn → (is_carried : Bool) → MailTurn
  Forwarded : Peer → (message : List ℕ) → (known : Log) → MailTurn

-- a reply that goes out to a peer, and nothing for silence
abbrev pub reply_posts : Peer → Option (List ℕ) → List InboxEvent
reply_posts peer None = []
reply_posts peer (Some reply) = Sent peer reply ∷ []

-- what happens at the inbox in a turn: what comes, and behind it the reply to its sender, unless a carrier replies
abbrev pub posts_in : MailTurn → List InboxEvent
posts_in (Dropped from bytes) = Arrived from bytes ∷ []
posts_in Rested = Silent ∷ []
posts_in (Answered from turn is_carried) = Arrived from turn.message ∷ reply_posts from turn.answer
posts_in (Forwarded from message known) = Arrived from message ∷ []

-- what happens at an inbox in some turns, one after the other
abbrev pub posts_over : List MailTurn → List InboxEvent
posts_over [] = []
posts_over (one ∷ more) = posts_in one ++ posts_over more

-- the transfer that a turn takes for a peer, where it takes one
abbrev pub taken_for : Peer → Turn → Option Awaited
taken_for peer turn = option_map (λ taken. (taken, peer)) turn.taken

-- what is left in a turn, or behind its reply, and what in some turns
abbrev pub left_in : MailTurn → List Deferred
left_in (Dropped from bytes) = []
left_in Rested = []
left_in (Answered from turn is_carried) = left_where is_carried (taken_for from turn)
left_in (Forwarded from message known) = Call from message known ∷ []

abbrev pub left_over : List MailTurn → List Deferred
left_over [] = []
left_over (one ∷ more) = left_in one ++ left_over more

-- the counts after so many transfers, and those after these turns
abbrev pub counts_all : Counts → List Awaited → Counts
counts_all counts transfers = fold (λ counts one. counts_carried counts) counts transfers

abbrev pub counts_in : Counts → MailTurn → Counts
counts_in counts (Dropped from bytes) = counts
counts_in counts Rested = counts
counts_in counts (Answered from turn is_carried) =
    counts_all (counts_behind counts turn) (carried_where is_carried (taken_for from turn))
counts_in counts (Forwarded from message known) = counts

abbrev pub counts_served : Counts → List MailTurn → Counts
counts_served counts turns = fold counts_in counts turns

module _ {H T : Type 0} (conduct : Conduct H) (counted : H → T) where
  -- A datagram of a peer was answered, and behind its reply the transfer that it took was carried out, where it took
  -- one and that is said.
  pub record AnswersAndCarries (from : Peer) (turn : Turn) (is_carried : Bool) (old new : H) : Type 0 where
    pub mid : H
    pub answers : AnswersMail conduct from turn old mid
    pub carries : CarriesAll conduct (carried_where is_carried (taken_for from turn)) mid new

  -- A call of a peer was left, for which a map may have to be made, with what the host knew.
  pub record LeavesCall (from : Peer) (message : List ℕ) (known : Log) (old new : H) : Type 0 where
    pub makes : may_make Datagram from message ≡ true
    pub known_is : known ≡ (conduct.seen old).known
    pub same : new ≡ old

  -- what a turn does to the host, where its reply goes out
  abbrev pub DoesTurn : MailTurn → H → H → Type 0
  DoesTurn (Dropped from bytes) old new = (datagram_max < length bytes) × (new ≡ old)
  DoesTurn Rested old new = IsTold conduct counted old new
  DoesTurn (Answered from turn is_carried) old new =
      (length turn.message ≤ datagram_max) × AnswersAndCarries from turn is_carried old new
  DoesTurn (Forwarded from message known) old new =
      (length message ≤ datagram_max) × LeavesCall from message known old new

  -- turns, one after the other
  abbrev pub DoesTurns : List MailTurn → H → H → Type 0
  DoesTurns [] old new = new ≡ old
  DoesTurns (one ∷ more) old new = (next : H) × DoesTurn one old next × DoesTurns more next new

  -- A datagram came, and its reply didn't go out. A transfer that it took is dropped.
  pub record LosesAnswer (events : List InboxEvent) (old new : H) : Type 0 where
    pub from : Peer
    pub turn : Turn
    pub came : events ≡ Arrived from turn.message ∷ []
    pub short : length turn.message ≤ datagram_max
    pub reply : IsSome turn.answer
    pub answers : AnswersMail conduct from turn old new

  -- What ends a run of at most so many turns behind so many: nothing behind the most, or the inbox fails, at a turn or
  -- at a reply.
  abbrev pub EndsTurns : ℕ → ℕ → Result Ended Failed → List InboxEvent → H → H → Type 0
  EndsTurns most count (Ok Spent) events old new = (count ≡ most) × (events ≡ []) × (new ≡ old)
  EndsTurns most count (Ok Done) events old new = ⊥
  EndsTurns most count (Err why) events old new =
      (count < most) × (((events ≡ []) × (new ≡ old)) ⊎ LosesAnswer events old new)

  -- These events are turns that a server made: each datagram that may have no map made for it has its reply to its
  -- sender before the next turn, or silence, and each other one has that, too, or is left for a carrier. The events fix
  -- the turns, since no reply to a call for which a map may be made is silence. Each transfer that a datagram took
  -- whose reply went out was carried out, or left in the queue.
  pub record ServesPosts (most : ℕ) (end : Result Ended Failed) (events : List InboxEvent) (old new : Mailing H)
      : Type 0 where
    pub first : Bool
    pub ready : H
    pub carries : CarriesAll conduct (carried_where first old.waiting) old.host ready
    pub served : List MailTurn
    pub last : H
    pub does : DoesTurns served ready last
    pub counts : conduct.counts last ≡ counts_served (conduct.counts ready) served
    pub rest : List InboxEvent
    pub ends : EndsTurns most (length served) end rest last new.host
    pub all : events ≡ posts_over served ++ rest
    pub cleared : new.waiting ≡ None
    pub holding : new.holding ≡ held_behind old.holding (left_where first old.waiting ++ left_over served) []

  -- A server had so many turns of an inbox at most, with this end: such events happened there. In them a transfer was
  -- left in the queue or carried out behind its reply, before the next turn, and none waits any more. What the host
  -- knew before is a front of what it knows, and its catalogue stays.
  pub record ServesMail (most : ℕ) (end : Result Ended Failed) (old new : Mailing H)
      (before after : InboxTells) : Type 0 where
    pub events : List InboxEvent
    pub last : Mailing H
    pub runs : Runs (mail_ways conduct counted) most events end old last
    pub closes : Closes conduct end last new
    pub sees : Sees events before after
    pub serves : ServesPosts most end events old new
    pub grown : IsFront (conduct.seen old.host).known (conduct.seen new.host).known
    pub catalogue : (conduct.seen new.host).catalogue ≡ (conduct.seen old.host).catalogue
