-- What a record gets: silence, its one reply, which may take a transfer, or a map that is made first (yp.x, RFC 5531
-- section 9).
use Rattle.std.specs.Prelude.{ℕ, Bool, true, false, nat_lt, if◌then◌else◌, List, ◌++◌, length, drop}
use Rattle.std.specs.Prelude.{Option, Some, None, Result, Ok, Err, is_ok}
use Rattle.yp_xdr.specs.declared.fault.XdrFault.{XdrFault}
use Rattle.yp_xdr.specs.Kind.{Kind, Boolean, ListOf, Value}
use Rattle.yp_xdr.specs.Spelling.{spelling}
use Rattle.yp_xdr.specs.Reading.{Remaining, reading}
use Rattle.yp_rpc.specs.declared.judging.Judged.{Judged}
use Rattle.yp_rpc.specs.declared.judging.Judged.TheVariants.{Ignored, Refused, Admitted}
use Rattle.yp_rpc.specs.declared.reply.ReplyHead.TheVariants.{Success, GarbageArgs}
use Rattle.yp_rpc.specs.Judging.{judged}
use Rattle.yp_rpc.specs.Reply.{reply_head}
use Rattle.yp_messages.specs.declared.stat.YpStat.TheVariants.{Yperr}
use Rattle.yp_messages.specs.declared.transfer.XfrStat.{XfrStat}
use Rattle.yp_messages.specs.declared.transfer.XfrStat.TheVariants.{Succ}
use Rattle.yp_io.specs.declared.stream.Peer.{Peer}
use Rattle.yp_messages.specs.Messages.{req_domain, req_key, req_nokey, resp_val, key_val, resp_master, resp_order}
use Rattle.yp_messages.specs.MapLists.{map_list}
use Rattle.yp_messages.specs.Transfers.{req_xfr, resp_xfr, req_make, resp_make, xfr_number}
use Rattle.yp_board.specs.Catalogues.{serves}
use Rattle.yp_answer.specs.declared.procedure.Path.{Path}
use Rattle.yp_answer.specs.declared.procedure.Path.TheVariants.{Stream, Datagram}
use Rattle.yp_answer.specs.declared.procedure.Procedure.{Procedure}
use Rattle.yp_answer.specs.declared.caller.Caller.{Caller}
use Rattle.yp_answer.specs.declared.procedure.Procedure.TheVariants.{Null, Domain, DomainNonack, Match, First, Next}
use Rattle.yp_answer.specs.declared.procedure.Procedure.TheVariants.{Xfr, Clear, All, Master, Order, Maplist, Make}
use Rattle.yp_answer.specs.declared.procedure.Procedure.TheVariants.{MakeNamed}
use Rattle.yp_rpc.specs.Turns.{datagram_max}
use Rattle.yp_answer.specs.Maps.{Maps, map_check, row_check}
use Rattle.yp_answer.specs.Results.{no_value, no_row, matched, first_row, next_row, all_items, mastered, ordered}
use Rattle.yp_answer.specs.Results.{maps_listed}
use Rattle.yp_answer.specs.Procedures.{programs_on}
use Rattle.yp_answer.specs.declared.make.MakeJob.{MakeJob}
use Rattle.yp_answer.specs.Make.{map_numbered, make_check}
use Rattle.yp_answer.specs.Transfer.{XfrRequest, Taken, asked_transid, taken_for, xfr_check}

-- What a record gets: no reply, this reply message, the same and a transfer is taken, or, to the call with this xid,
-- the status of a map that is made first.
pub data Response : Type 0 where
  Silence : Response
  Bytes : (bytes : List ℕ) → Response
  Takes : (bytes : List ℕ) (taken : Taken) → Response
  Open : (xid : ℕ) (job : MakeJob) → Response

-- the reply that goes out at once, where there is one
abbrev pub reply_at_once : Response → Option (List ℕ)
reply_at_once Silence = None
reply_at_once (Bytes bytes) = Some bytes
reply_at_once (Takes bytes taken) = Some bytes
reply_at_once (Open xid job) = None

-- the head of a reply with results, and the results
abbrev pub success : ℕ → (kind : Kind) → Value kind → List ℕ
success xid kind results = reply_head xid Success ++ spelling kind results

-- a reply of so many bytes that a datagram can't carry
abbrev pub exceeds : Path → ℕ → Bool
exceeds Stream len = false
exceeds Datagram len = nat_lt datagram_max len

-- what a look-up found, or what stands in its place where the path can't carry it
abbrev pub look_up : Path → ℕ → (kind : Kind) → Value kind → Value kind → List ℕ
look_up path xid kind found instead =
    if exceeds path (length (success xid kind found)) then success xid kind instead else success xid kind found

-- the refusal of arguments that no front of the bytes spells
abbrev pub garbage : ℕ → Response
garbage xid = Bytes (reply_head xid GarbageArgs)

-- what is made of the arguments, or the refusal of those that can't be read
abbrev pub with_arguments : {V : Type 0} → ℕ → Result V XdrFault → (V → Response) → Response
with_arguments xid (Ok arguments) reply_to = reply_to arguments
with_arguments xid (Err fault) reply_to = garbage xid

-- what was read, without what is left
abbrev pub value_read : {V : Type 0} → Result (V × Remaining) XdrFault → Result V XdrFault
value_read (Ok read) = Ok read.0
value_read (Err fault) = Err fault

-- the arguments at the front of these bytes
abbrev pub arguments_of : (kind : Kind) → List ℕ → Result (Value kind) XdrFault
arguments_of kind bytes = value_read (reading kind (record { at = 0; bytes = bytes }))

-- the reply of the make program with a status
abbrev pub make_reply : ℕ → XfrStat → List ℕ
make_reply xid stat = success xid resp_make (xfr_number stat)

-- a call to make a map has the status that refuses it, or the map is made first
abbrev pub make_response : ℕ → Result MakeJob XfrStat → Response
make_response xid (Err stat) = Bytes (make_reply xid stat)
make_response xid (Ok job) = Open xid job

-- the reply of XFR with a status, to the request with this transaction
abbrev pub xfr_reply : ℕ → ℕ → XfrStat → List ℕ
xfr_reply xid transid stat = success xid resp_xfr (transid, xfr_number stat)

-- XFR has the status that refuses it, or SUCC, and then the transfer is taken
abbrev pub xfr_response : ℕ → XfrRequest → Result ℕ XfrStat → Response
xfr_response xid asked (Err stat) = Bytes (xfr_reply xid (asked_transid asked) stat)
xfr_response xid asked (Ok map) = Takes (xfr_reply xid (asked_transid asked) Succ) (taken_for asked map)

-- the reply of a procedure to its arguments
abbrev pub procedure_reply : Maps → Caller → Procedure → List ℕ → Response
procedure_reply maps caller Null bytes = Bytes (reply_head caller.xid Success)
procedure_reply maps caller Clear bytes = Bytes (reply_head caller.xid Success)
procedure_reply maps caller Domain bytes =
    with_arguments caller.xid (arguments_of req_domain bytes)
    (λ domain. Bytes (success caller.xid Boolean (serves domain maps.catalogue)))
procedure_reply maps caller DomainNonack bytes =
    with_arguments caller.xid (arguments_of req_domain bytes)
    (λ domain. if serves domain maps.catalogue then Bytes (success caller.xid Boolean true) else Silence)
procedure_reply maps caller Match bytes =
    with_arguments caller.xid (arguments_of req_key bytes) (λ asked.
    Bytes (look_up caller.path caller.xid resp_val
    (matched asked.1.1 (row_check maps caller.peer.port asked.0 asked.1.0)) (no_value Yperr)))
procedure_reply maps caller First bytes =
    with_arguments caller.xid (arguments_of req_nokey bytes) (λ asked.
    Bytes (look_up caller.path caller.xid key_val (first_row (row_check maps caller.peer.port asked.0 asked.1))
    (no_row Yperr)))
procedure_reply maps caller Next bytes =
    with_arguments caller.xid (arguments_of req_key bytes) (λ asked.
    Bytes (look_up caller.path caller.xid key_val
    (next_row asked.1.1 (row_check maps caller.peer.port asked.0 asked.1.0)) (no_row Yperr)))
procedure_reply maps caller Xfr bytes =
    with_arguments caller.xid (arguments_of req_xfr bytes)
    (λ asked. xfr_response caller.xid asked (xfr_check maps asked))
procedure_reply maps caller All bytes =
    with_arguments caller.xid (arguments_of req_nokey bytes) (λ asked.
    Bytes (success caller.xid (ListOf key_val) (all_items (row_check maps caller.peer.port asked.0 asked.1))))
procedure_reply maps caller Master bytes =
    with_arguments caller.xid (arguments_of req_nokey bytes)
    (λ asked. Bytes (success caller.xid resp_master (mastered (map_check maps asked.0 asked.1))))
procedure_reply maps caller Order bytes =
    with_arguments caller.xid (arguments_of req_nokey bytes)
    (λ asked. Bytes (success caller.xid resp_order (ordered (map_check maps asked.0 asked.1))))
procedure_reply maps caller Maplist bytes =
    with_arguments caller.xid (arguments_of req_domain bytes)
    (λ domain. Bytes (success caller.xid map_list (maps_listed maps domain)))
procedure_reply maps caller Make bytes =
    with_arguments caller.xid (arguments_of req_make bytes)
    (λ asked. make_response caller.xid
    (make_check maps.catalogue caller.peer asked.0 (map_numbered asked.1)))
procedure_reply maps caller MakeNamed bytes =
    with_arguments caller.xid (arguments_of req_nokey bytes)
    (λ asked. make_response caller.xid (make_check maps.catalogue caller.peer asked.0 (Some asked.1)))

-- the reply to a message that isn't answered, or to a call that isn't let to a procedure, or is
abbrev pub judged_reply : Path → Maps → Peer → List ℕ → Judged Procedure → Response
judged_reply path maps peer message Ignored = Silence
judged_reply path maps peer message (Refused xid head) = Bytes (reply_head xid head)
judged_reply path maps peer message (Admitted call procedure) =
    procedure_reply maps (record { path = path; xid = call.xid; peer = peer }) procedure (drop call.body message)

-- what a record from a caller gets
abbrev pub reply : Path → Maps → Peer → List ℕ → Response
reply path maps peer message = judged_reply path maps peer message (judged (programs_on path) message)

-- ---- which replies rest on versions

-- a call with these arguments asks for versions
abbrev pub asks_for : Procedure → List ℕ → Bool
asks_for Null bytes = false
asks_for Domain bytes = false
asks_for DomainNonack bytes = false
asks_for Clear bytes = false
asks_for Make bytes = false
asks_for MakeNamed bytes = false
asks_for Match bytes = is_ok (arguments_of req_key bytes)
asks_for First bytes = is_ok (arguments_of req_nokey bytes)
asks_for Next bytes = is_ok (arguments_of req_key bytes)
asks_for Xfr bytes = is_ok (arguments_of req_xfr bytes)
asks_for All bytes = is_ok (arguments_of req_nokey bytes)
asks_for Master bytes = is_ok (arguments_of req_nokey bytes)
asks_for Order bytes = is_ok (arguments_of req_nokey bytes)
asks_for Maplist bytes = is_ok (arguments_of req_domain bytes)

abbrev pub judged_asks : List ℕ → Judged Procedure → Bool
judged_asks message Ignored = false
judged_asks message (Refused xid head) = false
judged_asks message (Admitted call procedure) = asks_for procedure (drop call.body message)

-- the reply to a record rests on versions, so a read step goes before it
abbrev pub asks : Path → List ℕ → Bool
asks path message = judged_asks message (judged (programs_on path) message)
