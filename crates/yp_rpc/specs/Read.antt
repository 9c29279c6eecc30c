-- How the head of a reply is read, by RFC 5531 section 9.
use Rattle.std.specs.Prelude.{ℕ, ℤ, pos, [], ◌∷◌, Result, Ok, if◌then◌else◌}
use Rattle.std.specs.Ordering.{int_eq}
use Rattle.yp_xdr.specs.declared.fault.XdrFault.{XdrFault}
use Rattle.yp_xdr.specs.Kind.{Kind, U32, Enum, Sequence}
use Rattle.yp_xdr.specs.Reading.{Remaining, ◌>>=◌, reading}
use Rattle.yp_rpc.specs.declared.reply.ReplyHead.{ReplyHead}
use Rattle.yp_rpc.specs.declared.reply.ReplyHead.TheVariants.{Success, ProgUnavail, ProgMismatch, ProcUnavail}
use Rattle.yp_rpc.specs.declared.reply.ReplyHead.TheVariants.{GarbageArgs, SystemErr, RpcMismatch, AuthError}
use Rattle.yp_rpc.specs.Call.{auth_kind}

-- the transaction's number, the type of the message, 1, REPLY, and reply_stat: 0, MSG_ACCEPTED, or 1, MSG_DENIED
abbrev pub reply_kind : Kind
reply_kind = Sequence U32 (Sequence (Enum (pos 1 ∷ [])) (Enum (pos 0 ∷ pos 1 ∷ [])))

-- of an accepted call any verifier, and accept_stat
abbrev pub accepted_kind : Kind
accepted_kind = Sequence auth_kind (Enum (pos 0 ∷ pos 1 ∷ pos 2 ∷ pos 3 ∷ pos 4 ∷ pos 5 ∷ []))

-- of a denied call reject_stat: 0, RPC_MISMATCH, or 1, AUTH_ERROR
abbrev pub denied_kind : Kind
denied_kind = Enum (pos 0 ∷ pos 1 ∷ [])

-- the lowest and the highest version that there are
abbrev pub versions_kind : Kind
versions_kind = Sequence U32 U32

-- what is read of a reply before its results, and what is left
abbrev pub HeadRead : Type 0
HeadRead = Result (ReplyHead × Remaining) XdrFault

-- the versions behind a mismatch
abbrev pub mismatch_read : (ℕ → ℕ → ReplyHead) → Remaining → HeadRead
mismatch_read head left = do
  versions ← reading versions_kind left
  Ok (head versions.0.0 versions.0.1, versions.1)

-- the auth_stat behind AUTH_ERROR, which may be any number
abbrev pub auth_error_read : Remaining → HeadRead
auth_error_read left = do
  stat ← reading U32 left
  Ok (AuthError stat.0, stat.1)

-- the head by its accept_stat
abbrev pub by_accept_stat : ℤ → Remaining → HeadRead
by_accept_stat stat left =
    if int_eq stat (pos 0) then Ok (Success, left)
    else (if int_eq stat (pos 1) then Ok (ProgUnavail, left)
    else (if int_eq stat (pos 2) then mismatch_read ProgMismatch left
    else (if int_eq stat (pos 3) then Ok (ProcUnavail, left)
    else (if int_eq stat (pos 4) then Ok (GarbageArgs, left)
    else Ok (SystemErr, left)))))

abbrev pub accepted_read : Remaining → HeadRead
accepted_read left = do
  accepted ← reading accepted_kind left
  by_accept_stat accepted.0.1 accepted.1

-- the head by its reject_stat
abbrev pub by_reject_stat : ℤ → Remaining → HeadRead
by_reject_stat stat left = if int_eq stat (pos 0) then mismatch_read RpcMismatch left else auth_error_read left

abbrev pub denied_read : Remaining → HeadRead
denied_read left = do
  stat ← reading denied_kind left
  by_reject_stat stat.0 stat.1

-- the head by its reply_stat
abbrev pub by_reply_stat : ℤ → Remaining → HeadRead
by_reply_stat stat left = if int_eq stat (pos 0) then accepted_read left else denied_read left

-- the number of the call and the head, and what is left: the results
abbrev pub reply_at : Remaining → Result ((ℕ × ReplyHead) × Remaining) XdrFault
reply_at left = do
  front ← reading reply_kind left
  head ← by_reply_stat front.0.1.1 front.1
  Ok ((front.0.0, head.0), head.1)
