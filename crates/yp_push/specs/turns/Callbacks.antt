-- What a datagram tells a push: the push response program (yppush_resp of yp.x), by the order of refusals of RFC 5531
-- section 9.
use Rattle.std.specs.Prelude.{◌≡◌, ℕ, List, drop, Option, Some, None, Result, Ok, Err, ◌==◌, if◌then◌else◌}
use Rattle.yp_xdr.specs.declared.fault.XdrFault.{XdrFault}
use Rattle.yp_xdr.specs.Kind.{Value}
use Rattle.yp_xdr.specs.Reading.{Remaining, reading}
use Rattle.yp_rpc.specs.declared.judging.Judged.{Judged}
use Rattle.yp_rpc.specs.declared.judging.Judged.TheVariants.{Ignored, Refused, Admitted}
use Rattle.yp_rpc.specs.declared.reply.ReplyHead.{ReplyHead}
use Rattle.yp_rpc.specs.declared.reply.ReplyHead.TheVariants.{Success, GarbageArgs}
use Rattle.yp_rpc.specs.Judging.{ProgramTable, one_program, judged}
use Rattle.yp_rpc.specs.Reply.{reply_head}
use Rattle.yp_messages.specs.declared.transfer.XfrStat.{XfrStat}
use Rattle.yp_messages.specs.Numbers.{push_version, push_null_procedure, xfrresp_procedure}
use Rattle.yp_messages.specs.Pushes.{push_resp}
use Rattle.yp_messages.specs.Transfers.{xfr_number}
use Rattle.yp_push.specs.declared.event.Event.TheVariants.{Called}
use Rattle.yp_push.specs.Ledgers.{Ledger, with_event}
use Rattle.yp_push.specs.declared.turns.callback.Procedure.{Procedure}
use Rattle.yp_push.specs.declared.turns.callback.Procedure.TheVariants as procedure

-- the number of the program that slaves call, of those that are used for a while (RFC 5531 section 8.3)
abbrev pub program : ℕ
program = 0x40000000

-- nothing that is answered; a reply of this head alone; XFRRESP with a transaction and its status
pub data CallbackCall : Type 0 where
  AsksNothing : CallbackCall
  AsksHead : (xid : ℕ) (head : ReplyHead) → CallbackCall
  AsksTold : (xid : ℕ) (told : Value push_resp) → CallbackCall

abbrev pub told_asked : ℕ → Result (Value push_resp × Remaining) XdrFault → CallbackCall
told_asked xid (Ok read) = AsksTold xid read.0
told_asked xid (Err fault) = AsksHead xid GarbageArgs

-- the procedure of the push response program with a number
abbrev pub procedure_of : ℕ → Option Procedure
procedure_of number =
    if number == push_null_procedure then Some procedure.Null
    else (if number == xfrresp_procedure then Some procedure.Xfrresp
    else None)

-- the program that slaves call, alone
abbrev pub programs : ProgramTable Procedure
programs = one_program program push_version procedure_of

-- a call of a procedure with its arguments
abbrev pub procedure_asked : ℕ → Procedure → List ℕ → CallbackCall
procedure_asked xid procedure.Null bytes = AsksHead xid Success
procedure_asked xid procedure.Xfrresp bytes = told_asked xid (reading push_resp (record { at = 0; bytes = bytes }))

abbrev pub judged_asked : List ℕ → Judged Procedure → CallbackCall
judged_asked message Ignored = AsksNothing
judged_asked message (Refused xid head) = AsksHead xid head
judged_asked message (Admitted call procedure) = procedure_asked call.xid procedure (drop call.body message)

-- what a datagram asks
abbrev pub asked_by : List ℕ → CallbackCall
asked_by message = judged_asked message (judged programs message)

-- the reply to it, or silence: it depends on the bytes of the datagram alone
abbrev pub reply_to : CallbackCall → Option (List ℕ)
reply_to AsksNothing = None
reply_to (AsksHead xid head) = Some (reply_head xid head)
reply_to (AsksTold xid told) = Some (reply_head xid Success)

-- A ledger has what is told, and nothing else.
abbrev pub LedgerIsTold : CallbackCall → Ledger → Ledger → Type 0
LedgerIsTold AsksNothing old new = new ≡ old
LedgerIsTold (AsksHead xid head) old new = new ≡ old
LedgerIsTold (AsksTold xid told) old new =
    (stat : XfrStat) × (xfr_number stat ≡ told.1) × (new ≡ with_event old (Called told.0 stat))
