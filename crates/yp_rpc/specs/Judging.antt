-- Whether a call is let to a procedure of the programs that are answered, by the order of refusals of RFC 5531 section
-- 9.
use Rattle.std.specs.Prelude.{ℕ, List, not, ◌&&◌, ◌==◌, if◌then◌else◌, Option, Some, None, Result, Ok, Err}
use Rattle.std.specs.Option.{ok_or}
use Rattle.yp_rpc.specs.declared.call.CallHead.{CallHead}
use Rattle.yp_rpc.specs.declared.call.Heard.{Heard}
use Rattle.yp_rpc.specs.declared.call.Heard.TheVariants.{Call, WrongRpc, Noise}
use Rattle.yp_rpc.specs.declared.judging.Judged.{Judged}
use Rattle.yp_rpc.specs.declared.judging.Judged.TheVariants.{Ignored, Refused, Admitted}
use Rattle.yp_rpc.specs.declared.reply.ReplyHead.{ReplyHead}
use Rattle.yp_rpc.specs.declared.reply.ReplyHead.TheVariants.{ProgUnavail, ProgMismatch, ProcUnavail, RpcMismatch}
use Rattle.yp_rpc.specs.declared.reply.ReplyHead.TheVariants.{AuthError}
use Rattle.yp_rpc.specs.Numbers.{auth_none, auth_sys, auth_rejectedcred, rpc_version}
use Rattle.yp_rpc.specs.Call.{heard}

-- the programs that are answered: the version of each, and the procedure of each with a number
pub record ProgramTable (Procedure : Type 0) : Type 0 where
  pub version : ℕ → Option ℕ
  pub procedure : ℕ → ℕ → Option Procedure

-- one program alone, in this version
abbrev pub one_program : {Procedure : Type 0} → (prog vers : ℕ) → (ℕ → Option Procedure) → ProgramTable Procedure
one_program prog vers procedure_of = record {
  version = λ asked. if asked == prog then Some vers else None;
  procedure = λ asked number. procedure_of number;
}

-- the procedure of a call of a program that is answered in this version, or isn't answered
abbrev pub admitted_in : {Procedure : Type 0} → ProgramTable Procedure → CallHead → Option ℕ
    → Result Procedure ReplyHead
admitted_in table call None = Err ProgUnavail
admitted_in table call (Some version) =
    if not (call.vers == version) then Err (ProgMismatch version version)
    else ok_or (table.procedure call.prog call.procedure) ProcUnavail

-- The procedure that a call is let to: its credential is none or that of Unix, the program is answered, in this
-- version, and has the procedure. The first that isn't so is the reason of the refusal.
abbrev pub admitted : {Procedure : Type 0} → ProgramTable Procedure → CallHead → Result Procedure ReplyHead
admitted table call =
    if not (call.flavor == auth_none) && not (call.flavor == auth_sys) then Err (AuthError auth_rejectedcred)
    else admitted_in table call (table.version call.prog)

abbrev pub judged_call : {Procedure : Type 0} → CallHead → Result Procedure ReplyHead → Judged Procedure
judged_call call (Ok procedure) = Admitted call procedure
judged_call call (Err head) = Refused call.xid head

abbrev pub judged_heard : {Procedure : Type 0} → ProgramTable Procedure → Heard → Judged Procedure
judged_heard table Noise = Ignored
judged_heard table (WrongRpc xid) = Refused xid (RpcMismatch rpc_version rpc_version)
judged_heard table (Call call) = judged_call call (admitted table call)

-- what a message is for these programs
abbrev pub judged : {Procedure : Type 0} → ProgramTable Procedure → List ℕ → Judged Procedure
judged table message = judged_heard table (heard message)
