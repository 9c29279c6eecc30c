-- What a datagram asks of the binder (ypbind of yp.x), by the order of refusals of RFC 5531 section 9.
use Rattle.std.specs.Prelude.{ℕ, List, drop, Option, Some, None, Result, Ok, Err, ◌==◌, if◌then◌else◌}
use Rattle.std.specs.Int.{w16, from_be_bytes}
use Rattle.yp_io.specs.declared.stream.Peer.{Peer}
use Rattle.yp_xdr.specs.declared.fault.XdrFault.{XdrFault}
use Rattle.yp_xdr.specs.Kind.{Value}
use Rattle.yp_xdr.specs.Reading.{Remaining, reading}
use Rattle.yp_rpc.specs.declared.judging.Judged.{Judged}
use Rattle.yp_rpc.specs.declared.judging.Judged.TheVariants.{Ignored, Refused, Admitted}
use Rattle.yp_rpc.specs.declared.reply.ReplyHead.{ReplyHead}
use Rattle.yp_rpc.specs.declared.reply.ReplyHead.TheVariants.{Success, GarbageArgs}
use Rattle.yp_rpc.specs.Judging.{ProgramTable, one_program, judged}
use Rattle.yp_messages.specs.Numbers.{bind_program, bind_version, bind_null_procedure, bind_domain_procedure}
use Rattle.yp_messages.specs.Numbers.{setdom_procedure}
use Rattle.yp_messages.specs.Messages.{req_domain}
use Rattle.yp_messages.specs.Bindings.{set_dom}
use Rattle.yp_binding.specs.declared.request.Procedure.{Procedure}
use Rattle.yp_binding.specs.declared.request.Procedure.TheVariants as procedure

-- the server that SETDOM names
abbrev pub server_of : Value set_dom → Peer
server_of asked = record { addr = asked.1.0; port = from_be_bytes w16 asked.1.1.0 }

-- nothing that is answered; a reply of this head alone; DOMAIN of a domain; SETDOM with its arguments and the server
-- that they name
pub data BinderCall : Type 0 where
  AsksNothing : BinderCall
  AsksHead : (xid : ℕ) (head : ReplyHead) → BinderCall
  AsksDomain : (xid : ℕ) (domain : List ℕ) → BinderCall
  AsksSetdom : (xid : ℕ) (asked : Value set_dom) (server : Peer) → BinderCall

abbrev pub domain_asked : ℕ → Result (List ℕ × Remaining) XdrFault → BinderCall
domain_asked xid (Ok read) = AsksDomain xid read.0
domain_asked xid (Err fault) = AsksHead xid GarbageArgs

abbrev pub setdom_asked : ℕ → Result (Value set_dom × Remaining) XdrFault → BinderCall
setdom_asked xid (Ok read) = AsksSetdom xid read.0 (server_of read.0)
setdom_asked xid (Err fault) = AsksHead xid GarbageArgs

-- the procedure of the binder with a number
abbrev pub procedure_of : ℕ → Option Procedure
procedure_of number =
    if number == bind_null_procedure then Some procedure.Null
    else (if number == bind_domain_procedure then Some procedure.Domain
    else (if number == setdom_procedure then Some procedure.Setdom
    else None))

-- the binder's program alone
abbrev pub programs : ProgramTable Procedure
programs = one_program bind_program bind_version procedure_of

-- a call of a procedure with its arguments
abbrev pub procedure_asked : ℕ → Procedure → List ℕ → BinderCall
procedure_asked xid procedure.Null bytes = AsksHead xid Success
procedure_asked xid procedure.Domain bytes = domain_asked xid (reading req_domain (record { at = 0; bytes = bytes }))
procedure_asked xid procedure.Setdom bytes = setdom_asked xid (reading set_dom (record { at = 0; bytes = bytes }))

abbrev pub judged_asked : List ℕ → Judged Procedure → BinderCall
judged_asked message Ignored = AsksNothing
judged_asked message (Refused xid head) = AsksHead xid head
judged_asked message (Admitted call procedure) = procedure_asked call.xid procedure (drop call.body message)

-- what a datagram asks
abbrev pub asked_by : List ℕ → BinderCall
asked_by message = judged_asked message (judged programs message)
