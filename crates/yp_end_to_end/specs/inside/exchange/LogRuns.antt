-- Records that have a reply at once.
use Rattle.std.specs.Prelude.{◌≡◌, ◌≢◌, ℕ, List}
use Rattle.yp_io.specs.declared.stream.Peer.{Peer}
use Rattle.yp_answer.specs.declared.procedure.Path.TheVariants.{Stream}
use Rattle.yp_answer.specs.Maps.{Maps}
use Rattle.yp_answer.specs.Reply.{Silence, Bytes, reply}
use Rattle.yp_answer.specs.Served.{AreServed}
use Rattle.yp_end_to_end.specs.inside.exchange.Served.{RepliesWith}

-- A server that knows these maps replies to a record at once: it isn't silent, makes no map first, and takes no
-- transfer.
abbrev pub RepliesAtOnce : Maps → Peer → List ℕ → Type 0
RepliesAtOnce maps peer message = (bytes : List ℕ) × (reply Stream maps peer message ≡ Bytes bytes)

-- The same, but that it may take one.
abbrev pub GetsReply : Maps → Peer → List ℕ → Type 0
GetsReply maps peer message = (bytes : List ℕ) × RepliesWith maps peer message bytes

-- Every server replies to a record at once, whatever its maps are.
abbrev pub IsRepliedTo : Peer → List ℕ → Type 0
IsRepliedTo peer message = (maps : Maps) → AreServed maps → GetsReply maps peer message

-- A server that knows these maps isn't silent to a record: it replies at once, or when it has made a map.
abbrev pub HasReply : Maps → Peer → List ℕ → Type 0
HasReply maps peer message = reply Stream maps peer message ≢ Silence

-- No server is silent to a record, whatever its maps are.
abbrev pub IsAnswered : Peer → List ℕ → Type 0
IsAnswered peer message = (maps : Maps) → AreServed maps → HasReply maps peer message
