-- What `bind` does: it asks servers for a domain, answers which one it is bound to, and tells that at the end.
use Rattle.std.specs.Prelude.{◌≡◌, ◌⊎◌, ℕ, Bool, true, false, ◌==◌, List, [], ◌∷◌, ◌++◌, map, drop}
use Rattle.std.specs.Prelude.{slice_index_or, Option, None, Some, Result, Ok, Err, codes}
use Rattle.std.specs.List.{starts_with}
use Rattle.yp_io.specs.declared.stream.Failed.{Failed}
use Rattle.yp_io.specs.declared.stream.Peer.{Peer}
use Rattle.yp_xdr.specs.declared.fault.XdrFault.{XdrFault}
use Rattle.yp_xdr.specs.Kind.{Boolean}
use Rattle.yp_xdr.specs.Reading.{Remaining, reading}
use Rattle.yp_rpc.specs.declared.reply.ReplyHead.{ReplyHead}
use Rattle.yp_rpc.specs.declared.reply.ReplyHead.TheVariants.{Success}
use Rattle.yp_rpc.specs.Called.{call_of}
use Rattle.yp_rpc.specs.Read.{reply_at}
use Rattle.yp_messages.specs.Messages.{req_domain}
use Rattle.yp_messages.specs.Numbers.{program, version, domain_nonack_procedure}
use Rattle.yp_rpc.specs.declared.turns.Ended.{Ended}
use Rattle.yp_rpc.specs.Turns.{Want, Letter, Turn, Ways, ways_of, turn_state, TakesTurns}
use Rattle.yp_binding.specs.declared.binder.Ping.{Ping}
use Rattle.yp_binding.specs.declared.binder.Policy.{Policy}
use Rattle.yp_binding.specs.declared.event.Event.TheVariants.{Called, Offered, Quiet}
use Rattle.yp_binding.specs.Events.{binding_of}
use Rattle.yp_binding.specs.Requests.{asked_by}
use Rattle.yp_binding.specs.Replies.{reply_to, set_by}
use Rattle.yp_binding.specs.Rounds.{Bindings, with_event, next_ping_of, after_ping, taken_by}
use Rattle.yp_command.specs.declared.office.status.Status.{Status}
use Rattle.yp_command.specs.declared.office.status.Status.TheVariants.{Done, WriteFault, NoMemory, InboxFault}
use Rattle.yp_command.specs.declared.office.office.Office.{Office}
use Rattle.yp_command.specs.Forms.{Host}
use Rattle.yp_command.specs.office.Lines.{peer_text}
use Rattle.yp_command.specs.office.Seeing.{Seeing, output, WriteFails, InboxFails}
use Rattle.yp_command_mail.specs.declared.binding.Offer.{Offer}
use Rattle.yp_command_mail.specs.Telling.{TellsText, box, HasInboxCauses, IsMailing}

-- ---- what is asked

-- for how many turns, the domain, the servers that are asked for it, and by which policy
pub record BindJob : Type 0 where
  pub turns : ℕ
  pub domain : List ℕ
  pub servers : List Peer
  pub policy : Policy

abbrev pub bind_job_of : ℕ → List ℕ → List Peer → Policy → BindJob
bind_job_of turns domain servers policy =
    record { turns = turns; domain = domain; servers = servers; policy = policy }

-- ---- the turns

-- a ping: a call of DOMAIN_NONACK with its number, for its domain
abbrev pub ping_call : Bindings → Ping → List ℕ
ping_call bindings ping =
    call_of req_domain ping.xid program version domain_nonack_procedure
    (slice_index_or bindings.domains ping.domain [])

-- the pings of the round are sent before its first turn
abbrev pub wanted : Bindings → Option Ping → Want
wanted bindings (Some ping) = Letter ping.server (ping_call bindings ping)
wanted bindings None = Turn

abbrev pub Goes : Bindings → Want → Bindings → Type 0
Goes old want new = (want ≡ wanted old (next_ping_of old)) × (new ≡ after_ping old (next_ping_of old))

-- the second word of a reply
abbrev pub is_reply : List ℕ → Bool
is_reply mail = starts_with ◌==◌ (drop 4 mail) (0 ∷ 0 ∷ 0 ∷ 1 ∷ [])

-- what a reply with results offers: whether the server has the domain
abbrev pub offer_behind : ℕ → Result (Bool × Remaining) XdrFault → Option Offer
offer_behind xid (Ok read) = Some (record { xid = xid; yes = read.0 })
offer_behind xid (Err fault) = None

abbrev pub offer_in : ℕ → ReplyHead → Remaining → Option Offer
offer_in xid Success left = offer_behind xid (reading Boolean left)
offer_in xid head left = None

abbrev pub offer_at : Result ((ℕ × ReplyHead) × Remaining) XdrFault → Option Offer
offer_at (Ok read) = offer_in read.0.0 read.0.1 read.1
offer_at (Err fault) = None

abbrev pub offer_of : List ℕ → Option Offer
offer_of mail = offer_at (reply_at (record { at = 0; bytes = mail }))

-- a reply that offers nothing is ignored
abbrev pub offered : Peer → Option Offer → Bindings → Bindings
offered from None bindings = bindings
offered from (Some offer) bindings = with_event bindings (Offered (taken_by bindings offer.xid from offer.yes))

-- A reply isn't replied to. Any other datagram gets the one reply of the binder.
abbrev pub HearsAs : Bool → Peer → List ℕ → Option (List ℕ) → Bindings → Bindings → Type 0
HearsAs true from mail reply old new = (reply ≡ None) × (new ≡ offered from (offer_of mail) old)
HearsAs false from mail reply old new =
    (reply ≡ reply_to old (asked_by mail)) × (new ≡ with_event old (Called (set_by old from (asked_by mail))))

abbrev pub Hears : Peer → List ℕ → Option (List ℕ) → Bindings → Bindings → Type 0
Hears from mail reply old new = HearsAs (is_reply mail) from mail reply old new

abbrev pub Rests : Bindings → Bindings → Type 0
Rests old new = new ≡ with_event old Quiet

abbrev pub binding_ways : Ways Bindings
binding_ways = ways_of Goes Hears Rests

-- the addresses of hosts
abbrev pub servers_of : List Host → List Peer
servers_of hosts = map (λ host. host.1) hosts

-- a binder of one domain with these servers, before its first event
abbrev pub unbound : List ℕ → List Peer → Policy → Bindings
unbound domain servers policy =
    record { domains = domain ∷ []; servers = servers; policy = policy; events = [] }

-- ---- what is told

abbrev pub server_text : Option Peer → List ℕ
server_text (Some peer) = peer_text peer
server_text None = codes "none"

-- the line of a domain that is bound so
abbrev pub bound_line : List ℕ → Option Peer → List ℕ
bound_line domain bound = domain ++ codes " " ++ server_text bound ++ codes "\n"

-- the status of turns that ended so, and what is printed
abbrev pub bound_status : Result Ended Failed → Status
bound_status (Ok end) = Done
bound_status (Err why) = InboxFault

abbrev pub bound_text : Result Ended Failed → List ℕ → Bindings → List ℕ
bound_text (Ok end) domain bindings = bound_line domain (binding_of 0 bindings.events)
bound_text (Err why) domain bindings = []

-- ---- what is done

-- the statuses with which `bind` may end
abbrev pub bind_may_end : Status → Bool
bind_may_end Done = true
bind_may_end WriteFault = true
bind_may_end NoMemory = true
bind_may_end InboxFault = true
bind_may_end _ = false

-- The turns were taken in which the binder asks and answers, and the server that the domain is bound to is told. What
-- happened at the inbox fixes the end and the last binder.
pub record TellsBinding {S K D C A I T : Type 0} (seen : Seeing S K D C A I T) (job : BindJob) (status : Status)
    (old new : Office S K D C A I T) : Type 0 where
  pub end : Result Ended Failed
  pub last : Bindings
  pub takes : TakesTurns binding_ways job.turns end
      (turn_state (unbound job.domain job.servers job.policy) (box seen old)) (turn_state last (box seen new))
  pub tells : TellsText (bound_text end job.domain last) (bound_status end) status (output seen old) (output seen new)

-- What `bind` does: it asks and answers in its turns, and tells the server that the domain is bound to; or memory runs
-- out before it asks. Where nothing fails the server is told.
pub record BindDoes {S K D C A I T : Type 0} (seen : Seeing S K D C A I T) (job : BindJob) (status : Status)
    (old new : Office S K D C A I T) : Type 0 where
  pub binds : TellsBinding seen job status old new ⊎ ((status ≡ NoMemory) × (new ≡ old))
  pub complete : ¬ InboxFails seen old new → ¬ WriteFails seen old new → (status ≡ Done) ⊎ (status ≡ NoMemory)
  pub causes : HasInboxCauses seen status old new
  pub stays : IsMailing old new
