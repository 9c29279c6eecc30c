-- What `getport`, `setport` and `unsetport` do: a port mapper is called, again after each quiet turn, until it answers.
use Rattle.std.specs.Prelude.{◌≡◌, ◌⊎◌, ℕ, Bool, true, false, ◌&&◌, ◌==◌, if◌then◌else◌}
use Rattle.std.specs.Prelude.{nat_le, List, [], ◌∷◌, ◌++◌, length, Option, None, Some, Result, Ok, Err}
use Rattle.std.specs.Prelude.{option_map, codes, decimal}
use Rattle.std.specs.List.{starts_with}
use Rattle.yp_io.specs.declared.stream.Failed.{Failed}
use Rattle.yp_io.specs.declared.stream.Peer.{Peer}
use Rattle.yp_xdr.specs.declared.fault.XdrFault.{XdrFault}
use Rattle.yp_xdr.specs.Faults.{fault_place}
use Rattle.yp_rpc.specs.declared.turns.Ended.{Ended}
use Rattle.yp_io.specs.Inboxes.{InboxEvent, Arrived, Silent, Sent}
use Rattle.yp_rpc.specs.Turns.{Want, Letter, Turn, Nothing, Ways, ways_of, turn_state, TakesTurns}
use Rattle.yp_rpc.specs.Turns.{datagram_max}
use Rattle.yp_binding.specs.Rounds.{is_same_peer}
use Rattle.yp_binding.specs.declared.portmap.asking.PortCall.{PortCall}
use Rattle.yp_binding.specs.declared.portmap.asking.PortCall.TheVariants.{GetPort, Set, Unset}
use Rattle.yp_binding.specs.declared.portmap.asking.PortAnswer.{PortAnswer}
use Rattle.yp_binding.specs.declared.portmap.asking.PortAnswer.TheVariants.{Port, Truth, Refused}
use Rattle.yp_binding.specs.portmap.Asking.{port_call, answer_read}
use Rattle.yp_command.specs.declared.office.status.Status.{Status}
use Rattle.yp_command.specs.declared.office.status.Status.TheVariants.{Done, No, WriteFault, NoMemory, Denied, BadReply}
use Rattle.yp_command.specs.declared.office.status.Status.TheVariants.{InboxFault, Unanswered}
use Rattle.yp_command.specs.declared.office.office.Office.{Office}
use Rattle.yp_command.specs.office.Seeing.{Seeing, output, WriteFails, InboxFails}
use Rattle.yp_command_mail.specs.declared.mapper.Asking.{Asking}
use Rattle.yp_command_mail.specs.Telling.{TellsText, box, HasInboxCauses, IsMailing}

-- ---- the turns

-- what is read of an answer
abbrev pub Answer : Type 0
Answer = Result PortAnswer XdrFault

-- the number of each call
abbrev pub call_number : ℕ
call_number = 1

-- the first two words of an answer: the number of the call, and that it is a reply
abbrev pub answer_front : List ℕ
answer_front = 0 ∷ 0 ∷ 0 ∷ 1 ∷ 0 ∷ 0 ∷ 0 ∷ 1 ∷ []

-- a datagram is the answer: it comes of the port mapper, and begins with these words
abbrev pub is_answer : (mapper from : Peer) → List ℕ → Bool
is_answer mapper from mail = is_same_peer mapper from && starts_with ◌==◌ mail answer_front

-- the call
abbrev pub call_of : Asking → List ℕ
call_of asking = port_call call_number asking.call

-- Nothing more is wanted once an answer came. Before it the call is sent, where it is due, and else a turn is taken.
abbrev pub wanted : Option Answer → Bool → Asking → Want
wanted (Some answer) due asking = Nothing
wanted None true asking = Letter asking.mapper (call_of asking)
wanted None false asking = Turn

-- the call that is sent is due no more
abbrev pub sent : Option Answer → Asking → Asking
sent (Some answer) asking = asking
sent None asking = record asking { is_due = false }

abbrev pub Goes : Asking → Want → Asking → Type 0
Goes old want new = (want ≡ wanted old.answer old.is_due old) × (new ≡ sent old.answer old)

-- Other datagrams are ignored. None is replied to.
abbrev pub heard : Peer → List ℕ → Asking → Asking
heard from mail asking =
    if is_answer asking.mapper from mail then record asking { answer = Some (answer_read asking.call mail) } else asking

abbrev pub Hears : Peer → List ℕ → Option (List ℕ) → Asking → Asking → Type 0
Hears from mail reply old new = (reply ≡ None) × (new ≡ heard from mail old)

-- After a quiet turn the call is due again.
abbrev pub Rests : Asking → Asking → Type 0
Rests old new = new ≡ record old { is_due = true }

abbrev pub asking_ways : Ways Asking
asking_ways = ways_of Goes Hears Rests

-- the first answer among what happened at an inbox: none that is over the limit of a datagram is heard
abbrev pub first_answer : Peer → List InboxEvent → Option (List ℕ)
first_answer mapper [] = None
first_answer mapper (Arrived from mail ∷ events) =
    if nat_le (length mail) datagram_max && is_answer mapper from mail then Some mail else first_answer mapper events
first_answer mapper (Silent ∷ events) = first_answer mapper events
first_answer mapper (Sent to mail ∷ events) = first_answer mapper events

-- before the first turn
abbrev pub begun : Peer → PortCall → Asking
begun mapper call = record {
  mapper = mapper;
  call = call;
  is_due = true;
  answer = None;
}

-- ---- what is told

-- the line of a port
abbrev pub port_line : ℕ → List ℕ
port_line port = codes "port " ++ decimal port ++ codes "\n"

-- There is no port where it is 0.
abbrev pub port_status : ℕ → Status
port_status port = if port == 0 then No else Done

-- the line of a truth value: SET or UNSET was done, or wasn't
abbrev pub truth_text : PortCall → Bool → List ℕ
truth_text call false = codes "refused\n"
truth_text (Unset prog vers) true = codes "unset\n"
truth_text call true = codes "set\n"

abbrev pub truth_status : Bool → Status
truth_status is_done = if is_done then Done else No

abbrev pub told_status : PortAnswer → Status
told_status (Port port) = port_status port
told_status (Truth is_done) = truth_status is_done
told_status Refused = Denied

abbrev pub told_text : PortCall → PortAnswer → List ℕ
told_text call (Port port) = port_line port
told_text call (Truth is_done) = truth_text call is_done
told_text call Refused = []

-- the status of an answer, or of none in so many turns
abbrev pub answer_status : ℕ → Option Answer → Status
answer_status turns None = Unanswered turns
answer_status turns (Some (Err fault)) = BadReply (fault_place fault)
answer_status turns (Some (Ok told)) = told_status told

abbrev pub answer_text : PortCall → Option Answer → List ℕ
answer_text call None = []
answer_text call (Some (Err fault)) = []
answer_text call (Some (Ok told)) = told_text call told

-- the status, once the turns have ended so
abbrev pub asked_status : ℕ → Result Ended Failed → Option Answer → Status
asked_status turns (Ok end) answer = answer_status turns answer
asked_status turns (Err why) answer = InboxFault

abbrev pub asked_text : PortCall → Result Ended Failed → Option Answer → List ℕ
asked_text call (Ok end) answer = answer_text call answer
asked_text call (Err why) answer = []

-- ---- what is done

-- the statuses with which each may end
abbrev pub mapper_may_end : Status → Bool
mapper_may_end Done = true
mapper_may_end No = true
mapper_may_end WriteFault = true
mapper_may_end NoMemory = true
mapper_may_end Denied = true
mapper_may_end (BadReply at) = true
mapper_may_end InboxFault = true
mapper_may_end (Unanswered turns) = true
mapper_may_end _ = false

-- The turns were taken that the call leads to, up to the first answer among what happened, and what came of them is
-- told. Where nothing fails, that is what the answer says, or that there was none.
pub record AsksMapper {S K D C A I T : Type 0} (seen : Seeing S K D C A I T) (turns : ℕ) (first : Asking)
    (status : Status) (old new : Office S K D C A I T) : Type 0 where
  pub end : Result Ended Failed
  pub last : Asking
  pub takes : TakesTurns asking_ways turns end (turn_state first (box seen old)) (turn_state last (box seen new))
  pub tells : TellsText (asked_text first.call end last.answer) (asked_status turns end last.answer) status
      (output seen old) (output seen new)
  pub answered : last.answer ≡ option_map (answer_read first.call) (first_answer first.mapper takes.events)
  pub complete : ¬ InboxFails seen old new → ¬ WriteFails seen old new → status ≡ answer_status turns last.answer

-- What is done: the port mapper is called, and what it answers is told, or why there is no answer; or memory runs out
-- before.
pub record MapperDoes {S K D C A I T : Type 0} (seen : Seeing S K D C A I T) (turns : ℕ) (first : Asking)
    (status : Status) (old new : Office S K D C A I T) : Type 0 where
  pub asks : AsksMapper seen turns first status old new ⊎ ((status ≡ NoMemory) × (new ≡ old))
  pub causes : HasInboxCauses seen status old new
  pub stays : IsMailing old new
