-- A call of a client is heard as that call, and its arguments are read as they were written.
use Rattle.std.proofs.Common.{◌≡◌, ℕ, List, [], ◌++◌, length, Result, Ok, refl, sym, ap, ◌∙◌, append_assoc, arith}
use Rattle.std.proofs.lemmas.List.{append-nil, drop_at}
use Rattle.yp_io.specs.declared.stream.Peer.{Peer}
use Rattle.yp_xdr.specs.Kind.{Kind, Value}
use Rattle.yp_xdr.specs.Spelling.{spelling, opaque, fixed}
use Rattle.yp_xdr.specs.inside.Spelling.{Fits}
use Rattle.yp_xdr.specs.inside.Laws.{WrittenIsReadAgain}
use Rattle.yp_rpc.specs.declared.call.CallHead.{CallHead}
use Rattle.yp_rpc.specs.declared.call.Heard.{Heard}
use Rattle.yp_rpc.specs.declared.reply.ReplyHead.{ReplyHead}
use Rattle.yp_rpc.specs.Call.{front_kind, procedure_kind}
use Rattle.yp_rpc.specs.Judging.{admitted, judged_call, judged_heard}
use Rattle.yp_rpc.specs.Called.{front, heading, call_of}
use Rattle.yp_rpc.specs.inside.Called.{called}
use Rattle.yp_rpc.specs.inside.Laws.{IsWord, CallIsHeardAgain}
use Rattle.yp_messages.specs.Numbers.{program, version}
use Rattle.yp_answer.specs.declared.procedure.Path.{Path}
use Rattle.yp_answer.specs.declared.procedure.Procedure.{Procedure}
use Rattle.yp_answer.specs.declared.caller.Caller.{Caller}
use Rattle.yp_answer.specs.Maps.{Maps}
use Rattle.yp_answer.specs.Procedures.{programs_on}
use Rattle.yp_answer.specs.Reply.{arguments_of, value_read, procedure_reply, judged_reply, reply}

-- what the head of a call says, and of one of YP
abbrev pub head_of : ℕ → ℕ → ℕ → ℕ → CallHead
head_of xid prog vers procedure = record { xid = xid; prog = prog; vers = vers; procedure = procedure; flavor = 0; body = 40 }

abbrev pub call_head : ℕ → ℕ → CallHead
call_head xid procedure = head_of xid program version procedure

-- a caller
abbrev pub caller_of : Path → ℕ → Peer → Caller
caller_of path xid peer = record { path = path; xid = xid; peer = peer }

-- the head of a call takes 40 bytes
length-called : (xid prog vers procedure : ℕ) → length (called xid prog vers procedure) ≡ 40
unfolding opaque fixed
length-called xid prog vers procedure = refl

-- the call is its head and its arguments
call_is : (kind : Kind) (xid prog vers procedure : ℕ) (arguments : Value kind) → call_of kind xid prog vers procedure arguments ≡ called xid prog vers procedure ++ spelling kind arguments
call_is kind xid prog vers procedure arguments =
    sym (append_assoc (spelling front_kind (front xid)) (spelling procedure_kind (heading prog vers procedure)) (spelling kind arguments))

-- its arguments are read behind its head
pub arguments_again : WrittenIsReadAgain → (kind : Kind) (arguments : Value kind) → Fits kind arguments
    → arguments_of kind (spelling kind arguments) ≡ Ok arguments
arguments_again law kind arguments fits =
    ap (λ (bytes : List ℕ). arguments_of kind bytes) (sym (append-nil (spelling kind arguments)))
    ∙ ap value_read (law kind arguments (spelling kind arguments) [] 0 (record { fits = fits; spelled = refl }))

-- the reply to a call is that of its procedure to its arguments
pub reply_to_call : CallIsHeardAgain → (path : Path) (maps : Maps) (peer : Peer) (kind : Kind) (xid prog vers number : ℕ) (arguments : Value kind) (procedure : Procedure)
    → IsWord xid → IsWord prog → IsWord vers → IsWord number
    → admitted (programs_on path) (head_of xid prog vers number) ≡ Ok procedure
    → reply path maps peer (call_of kind xid prog vers number arguments) ≡ procedure_reply maps (caller_of path xid peer) procedure (spelling kind arguments)
reply_to_call law path maps peer kind xid prog vers number arguments procedure x p v n is =
    let head = called xid prog vers number in
    let bytes = spelling kind arguments in
    ap (λ (message : List ℕ). reply path maps peer message) (call_is kind xid prog vers number arguments)
    ∙ ap (λ (h : Heard). judged_reply path maps peer (head ++ bytes) (judged_heard (programs_on path) h)) (law xid prog vers number bytes x p v n)
    ∙ ap (λ (a : Result Procedure ReplyHead). judged_reply path maps peer (head ++ bytes) (judged_call (head_of xid prog vers number) a)) is
    ∙ ap (λ (rest : List ℕ). procedure_reply maps (caller_of path xid peer) procedure rest) (drop_at head bytes 40 (length-called xid prog vers number))
