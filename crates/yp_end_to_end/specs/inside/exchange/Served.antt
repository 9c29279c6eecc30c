-- What a call of a client comes to at a server.
use Rattle.std.specs.Prelude.{◌≡◌, ℕ, ◌+◌, ◌≤◌, List, [], length, Option, Some, Result, IfOk}
use Rattle.yp_io.specs.declared.stream.Peer.{Peer}
use Rattle.yp_messages.specs.declared.stat.YpStat.{YpStat}
use Rattle.yp_messages.specs.declared.transfer.XfrStat.{XfrStat}
use Rattle.yp_version.specs.Limits.{body_max}
use Rattle.yp_version.specs.Rows.{rows_len}
use Rattle.yp_version.specs.Versions.{MapVersion}
use Rattle.yp_version.specs.Drafts.{Draft, draft_len}
use Rattle.yp_answer.specs.declared.procedure.Path.TheVariants.{Stream}
use Rattle.yp_answer.specs.Maps.{Maps}
use Rattle.yp_answer.specs.Reply.{Response, Bytes, Open, reply, reply_at_once, make_reply}

-- A server that knows these maps has one reply to a call over a stream, within the limit, and it says what is expected.
pub record ReplyTells {V : Type 0} (maps : Maps) (peer : Peer) (limit : ℕ) (call : List ℕ)
    (said : List ℕ → V) (expected : V) : Type 0 where
  pub bytes : List ℕ
  pub replied : reply Stream maps peer call ≡ Bytes bytes
  pub within : length bytes ≤ limit
  pub says : said bytes ≡ expected

-- A server that knows these maps replies to a call over a stream with these bytes, at once: it isn't silent, and makes
-- no map first. It may take a transfer behind the reply.
abbrev pub RepliesWith : Maps → Peer → List ℕ → List ℕ → Type 0
RepliesWith maps peer call bytes = reply_at_once (reply Stream maps peer call) ≡ Some bytes

-- the reply, where the map that is made first has this status
abbrev pub reply_made : XfrStat → Response → Option (List ℕ)
reply_made made (Open xid job) = Some (make_reply xid made)
reply_made made response = reply_at_once response

-- A server that knows these maps replies to a call over a stream with these bytes, at once, or when it has made a map
-- with this status.
abbrev pub MakesReply : Maps → Peer → XfrStat → List ℕ → List ℕ → Type 0
MakesReply maps peer made call bytes = reply_made made (reply Stream maps peer call) ≡ Some bytes

-- It has one reply at once to a call, within the limit, and it says what is expected.
pub record RepliesTelling {V : Type 0} (maps : Maps) (peer : Peer) (limit : ℕ) (call : List ℕ)
    (said : List ℕ → V) (expected : V) : Type 0 where
  pub bytes : List ℕ
  pub replied : RepliesWith maps peer call bytes
  pub within : length bytes ≤ limit
  pub says : said bytes ≡ expected

-- A builder has no rows, and room for those of a version, where one is held.
pub record DraftHasRoom (draft : Draft) (held : Result MapVersion YpStat) : Type 0 where
  pub empty : draft.rows ≡ []
  pub room : IfOk held (λ version. draft_len draft + rows_len version.rows ≤ body_max)
