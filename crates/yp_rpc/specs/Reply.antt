-- The head of a reply in words, by RFC 5531 section 9.
use Rattle.std.specs.Prelude.{ℕ, List, [], ◌∷◌, ◌++◌}
use Rattle.std.specs.List.{flat_map}
use Rattle.yp_xdr.specs.Spelling.{word}
use Rattle.yp_rpc.specs.declared.reply.ReplyHead.{ReplyHead}
use Rattle.yp_rpc.specs.declared.reply.ReplyHead.TheVariants.{Success, ProgUnavail, ProgMismatch, ProcUnavail}
use Rattle.yp_rpc.specs.declared.reply.ReplyHead.TheVariants.{GarbageArgs, SystemErr, RpcMismatch, AuthError}

-- an accepted call, MSG_ACCEPTED: the verifier AUTH_NONE without a body stands before accept_stat
abbrev pub accepted : ℕ → ℕ → List ℕ
accepted xid stat = xid ∷ 1 ∷ 0 ∷ 0 ∷ 0 ∷ stat ∷ []

-- a denied call, MSG_DENIED: reject_stat follows
abbrev pub denied : ℕ → ℕ → List ℕ
denied xid stat = xid ∷ 1 ∷ 1 ∷ stat ∷ []

-- the words of each head, with the numbers of accept_stat and reject_stat
abbrev pub reply_words : ℕ → ReplyHead → List ℕ
reply_words xid Success = accepted xid 0
reply_words xid ProgUnavail = accepted xid 1
reply_words xid (ProgMismatch low high) = accepted xid 2 ++ low ∷ high ∷ []
reply_words xid ProcUnavail = accepted xid 3
reply_words xid GarbageArgs = accepted xid 4
reply_words xid SystemErr = accepted xid 5
reply_words xid (RpcMismatch low high) = denied xid 0 ++ low ∷ high ∷ []
reply_words xid (AuthError stat) = denied xid 1 ++ stat ∷ []

-- words, one behind the other
abbrev pub words : List ℕ → List ℕ
words numbers = flat_map word numbers

-- the bytes of a reply's head
abbrev pub reply_head : ℕ → ReplyHead → List ℕ
reply_head xid head = words (reply_words xid head)
