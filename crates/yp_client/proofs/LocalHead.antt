-- The head of a reply is read from its first 432 bytes.
use Rattle.std.proofs.Common.{ℕ, ℤ, pos, [], ◌∷◌, Ok, arith}
use Rattle.yp_xdr.specs.Kind.{U32, Enum, Opaque, Sequence}
use Rattle.yp_xdr.specs.Reading.{◌>>=◌, reading}
use Rattle.yp_rpc.specs.declared.reply.ReplyHead.{ReplyHead}
use Rattle.yp_rpc.specs.declared.reply.ReplyHead.TheVariants.{Success, ProgUnavail, ProgMismatch, ProcUnavail}
use Rattle.yp_rpc.specs.declared.reply.ReplyHead.TheVariants.{GarbageArgs, SystemErr, RpcMismatch, AuthError}
use Rattle.yp_rpc.specs.Call.{auth_kind}
use Rattle.yp_rpc.specs.Read.{reply_kind, accepted_kind, denied_kind, versions_kind, mismatch_read, auth_error_read}
use Rattle.yp_rpc.specs.Read.{by_accept_stat, accepted_read, denied_read, by_reject_stat, by_reply_stat, reply_at}
use Rattle.yp_client.proofs.Local.{IsLocal, Takes, local_then, local_ok, local_choice, local_wider, local_word}
use Rattle.yp_client.proofs.Local.{local_one_of, local_opaque, local_sequence}

takes_auth : Takes 400 400
takes_auth k few = omega arith

local_auth : IsLocal 8 408 (reading auth_kind)
local_auth = local_sequence 4 4 4 404 U32 (Opaque 400) local_word (local_opaque 400 400 takes_auth)

local_reply_kind : IsLocal 12 12 (reading reply_kind)
local_reply_kind =
    local_sequence 4 4 8 8 U32 (Sequence (Enum (pos 1 ∷ [])) (Enum (pos 0 ∷ pos 1 ∷ []))) local_word
    (local_sequence 4 4 4 4 (Enum (pos 1 ∷ [])) (Enum (pos 0 ∷ pos 1 ∷ [])) (local_one_of _) (local_one_of _))

local_accepted_kind : IsLocal 12 412 (reading accepted_kind)
local_accepted_kind = local_sequence 8 408 4 4 auth_kind
    (Enum (pos 0 ∷ pos 1 ∷ pos 2 ∷ pos 3 ∷ pos 4 ∷ pos 5 ∷ [])) local_auth (local_one_of _)

local_versions : IsLocal 8 8 (reading versions_kind)
local_versions = local_sequence 4 4 4 4 U32 U32 local_word local_word

local_mismatch : (head : ℕ → ℕ → ReplyHead) → IsLocal 0 8 (mismatch_read head)
local_mismatch head = local_wider 8 8 0 8 (mismatch_read head) (omega arith) (omega arith)
    (local_then 8 8 0 0 (reading versions_kind)
    (λ versions left. Ok (head versions.0 versions.1, left)) local_versions (λ versions. local_ok _))

local_auth_error : IsLocal 0 8 auth_error_read
local_auth_error = local_wider 4 4 0 8 auth_error_read (omega arith) (omega arith)
    (local_then 4 4 0 0 (reading U32) (λ stat left. Ok (AuthError stat, left)) local_word (λ stat. local_ok _))

-- a head without more
local_bare : (head : ReplyHead) → IsLocal 0 8 (λ left. Ok (head, left))
local_bare head = local_wider 0 0 0 8 (λ left. Ok (head, left)) (omega arith) (omega arith) (local_ok head)

local_accept_stat : (stat : ℤ) → IsLocal 0 8 (by_accept_stat stat)
local_accept_stat stat =
    local_choice 0 8 _ _ _ (local_bare Success)
    (local_choice 0 8 _ _ _ (local_bare ProgUnavail)
    (local_choice 0 8 _ _ _ (local_mismatch ProgMismatch)
    (local_choice 0 8 _ _ _ (local_bare ProcUnavail)
    (local_choice 0 8 _ _ _ (local_bare GarbageArgs) (local_bare SystemErr)))))

local_accepted : IsLocal 0 420 accepted_read
local_accepted = local_wider 12 420 0 420 accepted_read (omega arith) (omega arith)
    (local_then 12 412 0 8 (reading accepted_kind)
    (λ accepted left. by_accept_stat accepted.1 left) local_accepted_kind (λ accepted. local_accept_stat accepted.1))

local_denied : IsLocal 0 420 denied_read
local_denied =
    local_wider 4 12 0 420 denied_read (omega arith) (omega arith)
    (local_then 4 4 0 8 (reading denied_kind) (λ stat left. by_reject_stat stat left) (local_one_of _)
    (λ stat. local_choice 0 8 _ _ _ (local_mismatch RpcMismatch) local_auth_error))

local_reply_stat : (stat : ℤ) → IsLocal 0 420 (by_reply_stat stat)
local_reply_stat stat = local_choice 0 420 _ _ _ local_accepted local_denied

pub local_reply : IsLocal 12 432 reply_at
local_reply =
    local_then 12 12 0 420 (reading reply_kind)
    (λ front left. by_reply_stat front.1.1 left >>= (λ head. Ok ((front.0, head.0), head.1))) local_reply_kind
    (λ front. local_then 0 420 0 0 (by_reply_stat front.1.1) (λ head left. Ok ((front.0, head), left))
    (local_reply_stat front.1.1) (λ head. local_ok _))
