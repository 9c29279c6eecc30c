-- What a reader of a stream can rely on, whatever the limit of a record is, and what joins written and read heads.
use Rattle.std.specs.Prelude.{◌≡◌, ◌≢◌, ℕ, ◌<◌, ◌^◌, List, [], ◌++◌, length, Ok}
use Rattle.yp_xdr.specs.inside.Reading.{IsBytes}
use Rattle.yp_rpc.specs.declared.call.Heard.TheVariants.{Call}
use Rattle.yp_rpc.specs.declared.reply.ReplyHead.{ReplyHead}
use Rattle.yp_rpc.specs.declared.reply.ReplyHead.TheVariants.{Success, ProgUnavail, ProgMismatch, ProcUnavail}
use Rattle.yp_rpc.specs.declared.reply.ReplyHead.TheVariants.{GarbageArgs, SystemErr, RpcMismatch, AuthError}
use Rattle.yp_rpc.specs.Call.{heard}
use Rattle.yp_rpc.specs.inside.Called.{called}
use Rattle.yp_rpc.specs.Reply.{reply_head}
use Rattle.yp_rpc.specs.inside.Read.{reply_read}
use Rattle.yp_rpc.specs.Records.{Fragments, Cut, IsRest, IsTorn, IsLong}

-- the records of a stream and the rest behind them are determined by its bytes
abbrev pub CutIsOne : Type 0
CutIsOne = (limit : ℕ) (stream : List ℕ) (messages others : List (List ℕ)) (rest rest' : List ℕ)
    → Cut limit stream messages rest → Cut limit stream others rest'
    → (messages ≡ others) × (rest ≡ rest')

-- each stream of bytes begins with some records, and behind them is a rest
abbrev pub CutExists : Type 0
CutExists = (limit : ℕ) (stream : List ℕ) → IsBytes stream
    → (messages : List (List ℕ)) × (rest : List ℕ) × Cut limit stream messages rest

-- a stream begins with one whole record at most
abbrev pub FirstIsOne : Type 0
FirstIsOne = (limit : ℕ) (message other bytes bytes' more more' : List ℕ) → Fragments limit message bytes
    → Fragments limit other bytes' → bytes ++ more ≡ bytes' ++ more'
    → (message ≡ other) × (more ≡ more')

-- a rest begins with no whole record
abbrev pub RestIsNotWhole : Type 0
RestIsNotWhole = (limit : ℕ) (message bytes more : List ℕ) → Fragments limit message bytes
    → IsRest limit (bytes ++ more) → ⊥

-- a torn rest isn't long
abbrev pub TornIsNotLong : Type 0
TornIsNotLong = (limit : ℕ) (rest : List ℕ) → IsTorn limit rest → IsLong limit rest → ⊥

-- a torn rest has bytes
abbrev pub TornIsSome : Type 0
TornIsSome = (limit : ℕ) (rest : List ℕ) → IsTorn limit rest → rest ≢ []

-- a long one too
abbrev pub LongIsSome : Type 0
LongIsSome = (limit : ℕ) (rest : List ℕ) → IsLong limit rest → rest ≢ []

-- a number that fits in a word
abbrev pub IsWord : ℕ → Type 0
IsWord n = n < 2 ^ 32

-- the numbers of a reply's head fit in words
abbrev pub HasWords : ReplyHead → Type 0
HasWords Success = Unit {0}
HasWords ProgUnavail = Unit {0}
HasWords (ProgMismatch low high) = IsWord low × IsWord high
HasWords ProcUnavail = Unit {0}
HasWords GarbageArgs = Unit {0}
HasWords SystemErr = Unit {0}
HasWords (RpcMismatch low high) = IsWord low × IsWord high
HasWords (AuthError stat) = IsWord stat

-- the head of a reply that was written is read again, whatever is behind it
abbrev pub ReplyIsReadAgain : Type 0
ReplyIsReadAgain = (xid : ℕ) (head : ReplyHead) (more : List ℕ) → IsWord xid → HasWords head
    → reply_read (reply_head xid head ++ more)
    ≡ Ok (record { xid = xid; head = head; body = length (reply_head xid head) })

-- the head of a call that was written is heard as that call, without a credential, whatever is behind it
abbrev pub CallIsHeardAgain : Type 0
CallIsHeardAgain = (xid prog vers procedure : ℕ) (more : List ℕ) → IsWord xid → IsWord prog → IsWord vers
    → IsWord procedure
    → heard (called xid prog vers procedure ++ more)
    ≡ Call (record { xid = xid; prog = prog; vers = vers; procedure = procedure; flavor = 0; body = 40 })
