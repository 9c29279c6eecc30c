-- How what the code answers stands for a reply: bytes in a buffer, a stream, a transfer or a map to be made.
use Rattle.std.specs.Prelude.{◌≡◌, ◌≢◌, ℕ, ◌<◌, ◌≤◌, List, [], length, take, Ok, Err, Result, ⊤}
use Rattle.yp_io.specs.declared.stream.Peer.{Peer}
use Rattle.yp_xdr.specs.declared.fault.XdrFault.{XdrFault}
use Rattle.yp_messages.specs.declared.stat.YpStat.{YpStat}
use Rattle.yp_messages.specs.Numbers.{name_max}
use Rattle.yp_answer.specs.declared.procedure.Path.{Path}
use Rattle.yp_answer.specs.declared.procedure.Procedure.{Procedure}
use Rattle.yp_answer.specs.declared.caller.Caller.{Caller}
use Rattle.yp_answer.specs.declared.calls.Answered.{Answered}
use Rattle.yp_answer.specs.inside.Make.{IsMadeAsNamed}
use Rattle.yp_answer.specs.declared.make.MakeJob.{MakeJob}
use Rattle.yp_answer.specs.declared.transfer.TransferJob.{TransferJob}
use Rattle.yp_answer.specs.inside.Transfer.{taken_view}
use Rattle.yp_answer.specs.declared.calls.Answered.TheVariants as answers
use Rattle.yp_answer.specs.Maps.{Maps}
use Rattle.yp_answer.specs.Reply.{Response, Silence, Bytes, Takes, Open, garbage, reply, procedure_reply}
use Rattle.yp_rpc.specs.Records.{joined}
use Rattle.yp_answer.specs.inside.Streams.{Streamed, parts_left}

-- the map of a stream is one of the catalogue
abbrev pub StreamIsInside : Maps → Result ℕ YpStat → Type 0
StreamIsInside maps (Ok map) = map < length maps.catalogue.maps
StreamIsInside maps (Err stat) = Unit {0}

-- The reply is at the front of the buffer.
pub record Replies (expected : Response) (len : ℕ) (buf : List ℕ) : Type 0 where
  pub some : 0 < len
  pub within : len ≤ length buf
  pub bytes : expected ≡ Bytes (take len buf)

-- The reply is the parts of a stream that are left, at least one; its map is one of the catalogue.
pub record Streams (maps : Maps) (expected : Response) (stream : Streamed) : Type 0 where
  pub inside : StreamIsInside maps stream.source
  pub some : parts_left maps.log stream ≢ []
  pub whole : expected ≡ Bytes (joined (parts_left maps.log stream))

-- The reply is at the front of the buffer, and takes a transfer of one of the catalogue's maps, from a source with a
-- name.
pub record TakesTransfer (maps : Maps) (expected : Response) (len : ℕ) (job : TransferJob) (buf : List ℕ) : Type 0 where
  pub inside : job.map < length maps.catalogue.maps
  pub named : 0 < length job.source.now
  pub source_len : length job.source.now ≤ name_max
  pub some : 0 < len
  pub within : len ≤ length buf
  pub takes : expected ≡ Takes (take len buf) (taken_view job)

-- The reply waits for a map, one of the catalogue, that is made first, of what its name says.
pub record WaitsForMake (maps : Maps) (expected : Response) (xid : ℕ) (job : MakeJob) : Type 0 where
  pub inside : job.map < length maps.catalogue.maps
  pub read : IsMadeAsNamed maps.catalogue job
  pub left_open : expected ≡ Open xid job

-- an answer has this reply: silence, the front of the buffer, which may take a transfer, or a stream; or it has the map
-- that is made first
abbrev pub HasReply : Maps → Response → Answered → List ℕ → Type 0
HasReply maps expected answers.Silent buf = expected ≡ Silence
HasReply maps expected (answers.Reply len) buf = Replies expected len buf
HasReply maps expected (answers.Stream stream) buf = Streams maps expected stream
HasReply maps expected (answers.Transfer len job) buf = TakesTransfer maps expected len job buf
HasReply maps expected (answers.Make xid job) buf = WaitsForMake maps expected xid job

-- An answer is no stream.
abbrev pub IsNoStream : Answered → Type 0
IsNoStream (answers.Stream stream) = ⊥
IsNoStream _ = ⊤

-- the answer has the reply of a procedure
abbrev pub IsProcedureAnswer : Maps → Caller → Procedure → List ℕ → Answered → List ℕ → Type 0
IsProcedureAnswer maps caller procedure arguments answered buf =
    HasReply maps (procedure_reply maps caller procedure arguments) answered buf

-- the reply of a procedure is at the front of the buffer, or its arguments can't be read
abbrev pub IsPut : Maps → Caller → Procedure → List ℕ → Result ℕ XdrFault → List ℕ → Type 0
IsPut maps caller procedure arguments (Ok len) buf =
    Bytes (take len buf) ≡ procedure_reply maps caller procedure arguments
IsPut maps caller procedure arguments (Err fault) buf =
    garbage caller.xid ≡ procedure_reply maps caller procedure arguments

-- the answer has the reply of a procedure, or its arguments can't be read
abbrev pub IsReadAnswer : Maps → Caller → Procedure → List ℕ → Result Answered XdrFault → List ℕ → Type 0
IsReadAnswer maps caller procedure arguments (Ok answered) buf =
    IsProcedureAnswer maps caller procedure arguments answered buf
IsReadAnswer maps caller procedure arguments (Err fault) buf =
    garbage caller.xid ≡ procedure_reply maps caller procedure arguments

-- the answer has the one reply to a record
abbrev pub IsAnswer : Path → Maps → Peer → List ℕ → Answered → List ℕ → Type 0
IsAnswer path maps peer message answered buf = HasReply maps (reply path maps peer message) answered buf
