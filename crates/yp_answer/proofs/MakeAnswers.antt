-- What a call that may have a map made for it gets.
use Rattle.std.proofs.Common.{◌≡◌, ℕ, Bool, true, false, List, drop, Result, Ok, Err}
use Rattle.std.specs.Prelude.{bytes_eq, ◌&&◌, Some}
use Rattle.yp_io.specs.declared.stream.Peer.{Peer}
use Rattle.yp_io.specs.Peers.{own_host}
use Rattle.yp_xdr.specs.declared.fault.XdrFault.{XdrFault}
use Rattle.yp_rpc.specs.Judging.{judged}
use Rattle.yp_rpc.specs.declared.judging.Judged.{Judged}
use Rattle.yp_rpc.specs.declared.judging.Judged.TheVariants.{Ignored, Refused, Admitted}
use Rattle.yp_messages.specs.Messages.{req_nokey}
use Rattle.yp_messages.specs.Transfers.{req_make}
use Rattle.yp_messages.specs.declared.transfer.XfrStat.{XfrStat}
use Rattle.yp_answer.specs.declared.caller.Caller.{Caller}
use Rattle.yp_answer.specs.declared.make.MakeJob.{MakeJob}
use Rattle.yp_answer.specs.declared.procedure.Path.{Path}
use Rattle.yp_answer.specs.declared.procedure.Procedure.{Procedure}
use Rattle.yp_answer.specs.declared.procedure.Procedure.TheVariants.{Null, Domain, DomainNonack, Match, First, Next, Xfr, Clear, All, Master, Order, Maplist, Make, MakeNamed}
use Rattle.yp_answer.specs.Make.{map_numbered, make_check}
use Rattle.yp_answer.specs.Maps.{Maps}
use Rattle.yp_answer.specs.Procedures.{programs_on}
use Rattle.yp_answer.specs.Reply.{Response, arguments_of, with_arguments, make_response, procedure_reply, judged_reply, reply}
use Rattle.yp_answer.specs.session.Makes.{is_make, is_let_to_make, may_make}
use Rattle.yp_answer.specs.inside.Laws.{IsAnsweredAlone, MakeIsAnswered}

-- it is answered where arguments that can be read are
of_read : {V : Type 0} (xid : ℕ) (read : Result V XdrFault) (reply_to : V → Response)
    → ((v : V) → IsAnsweredAlone (reply_to v)) → IsAnsweredAlone (with_arguments xid read reply_to)
of_read xid (Ok v) reply_to all = all v
of_read xid (Err fault) reply_to all = tt

of_check : (xid : ℕ) (check : Result MakeJob XfrStat) → IsAnsweredAlone (make_response xid check)
of_check xid (Ok job) = tt
of_check xid (Err stat) = tt

of_procedure : (maps : Maps) (caller : Caller) (procedure : Procedure) (bytes : List ℕ) → is_make procedure ≡ true
    → IsAnsweredAlone (procedure_reply maps caller procedure bytes)
of_procedure maps caller Null bytes is = cc
of_procedure maps caller Clear bytes is = cc
of_procedure maps caller Domain bytes is = cc
of_procedure maps caller DomainNonack bytes is = cc
of_procedure maps caller Match bytes is = cc
of_procedure maps caller First bytes is = cc
of_procedure maps caller Next bytes is = cc
of_procedure maps caller Xfr bytes is = cc
of_procedure maps caller All bytes is = cc
of_procedure maps caller Master bytes is = cc
of_procedure maps caller Order bytes is = cc
of_procedure maps caller Maplist bytes is = cc
of_procedure maps caller Make bytes is =
    of_read caller.xid (arguments_of req_make bytes)
    (λ asked. make_response caller.xid (make_check maps.catalogue caller.peer asked.0 (map_numbered asked.1)))
    (λ asked. of_check caller.xid (make_check maps.catalogue caller.peer asked.0 (map_numbered asked.1)))
of_procedure maps caller MakeNamed bytes is =
    of_read caller.xid (arguments_of req_nokey bytes)
    (λ asked. make_response caller.xid (make_check maps.catalogue caller.peer asked.0 (Some asked.1)))
    (λ asked. of_check caller.xid (make_check maps.catalogue caller.peer asked.0 (Some asked.1)))

of_judged : (path : Path) (maps : Maps) (peer : Peer) (message : List ℕ) (was : Judged Procedure)
    → is_let_to_make was ≡ true → IsAnsweredAlone (judged_reply path maps peer message was)
of_judged path maps peer message Ignored is = cc
of_judged path maps peer message (Refused number head) is = cc
of_judged path maps peer message (Admitted call procedure) is =
    of_procedure maps (record { path = path; xid = call.xid; peer = peer }) procedure (drop call.body message) is

second : (a b : Bool) → a && b ≡ true → b ≡ true
second true b h = h
second false b h = cc

pub make_answered : MakeIsAnswered
make_answered path maps peer message makes =
    of_judged path maps peer message (judged (programs_on path) message)
    (second (bytes_eq peer.addr own_host) (is_let_to_make (judged (programs_on path) message)) makes)
