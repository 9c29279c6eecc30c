-- What the client commands do: a server is asked, and its answer printed.
use Rattle.std.specs.Prelude.{◌≡◌, ◌⊎◌, ℕ, Bool, true, false, List, ◌++◌, Result, Ok, Err}
use Rattle.yp_io.specs.declared.stream.Peer.{Peer}
use Rattle.yp_board.specs.Catalogues.{Catalogue}
use Rattle.yp_board.specs.Logs.{Log}
use Rattle.yp_answer.specs.session.Hosts.{Turn}
use Rattle.yp_client.specs.declared.fault.ClientFault.TheVariants as client
use Rattle.yp_client.specs.declared.query.fault.QueryFault.{QueryFault}
use Rattle.yp_client.specs.declared.query.fault.QueryFault.TheVariants as fault
use Rattle.yp_client.specs.Questions.{ByteQuestion}
use Rattle.yp_client.specs.query.Scenes.{QueryTells, Asks, query_tells}
use Rattle.yp_client.specs.query.Complete.{HasAnswer, HasCome}
use Rattle.yp_end_to_end.specs.exchange.Runs.{sent_all, query_of, PrintsOnLogs}
use Rattle.yp_end_to_end.specs.exchange.LogRuns.{replies_of, AnswersCalls}
use Rattle.yp_command.specs.office.Rows.{row_status}
use Rattle.yp_command.specs.declared.office.status.Status.{Status}
use Rattle.yp_command.specs.declared.office.status.Status.TheVariants.{Done, No, ReadFault, WriteFault, Torn, TooLong, NoMemory}
use Rattle.yp_command.specs.declared.office.status.Status.TheVariants.{Yp, Denied, BadReply, BadXid, DialFault, Rows}
use Rattle.yp_command.specs.declared.office.office.Office.{Office}
use Rattle.yp_command.specs.office.Seeing.{Seeing, output, WriteFails, DialFails}

-- the status of a question: done, or why it has no answer
abbrev pub status_of : Result (Unit {0}) QueryFault → Status
status_of (Ok done) = Done
status_of (Err fault.NoKey) = No
status_of (Err fault.NotMember) = No
status_of (Err (fault.NotDone stat)) = No
status_of (Err fault.Dial) = DialFault
status_of (Err fault.Output) = WriteFault
status_of (Err fault.NoMemory) = NoMemory
status_of (Err (fault.Client (client.Yp stat))) = Yp stat
status_of (Err (fault.Client (client.Denied head))) = Denied
status_of (Err (fault.Client (client.BadReply at))) = BadReply at
status_of (Err (fault.Client (client.BadXid want got))) = BadXid want got
status_of (Err (fault.Client (client.Torn at))) = Torn at
status_of (Err (fault.Client (client.TooLong at))) = TooLong at
status_of (Err (fault.Client client.ReadFault)) = ReadFault
status_of (Err (fault.Client client.WriteFault)) = WriteFault
status_of (Err (fault.Client client.Spent)) = NoMemory
status_of (Err (fault.Client (client.Rows row why))) = row_status row why
status_of (Err (fault.Client client.NoMemory)) = NoMemory

-- what the dial and the output of an office tell
abbrev pub scene : {S K D C A I T : Type 0} → Seeing S K D C A I T → Office S K D C A I T → QueryTells
scene seen office =
    query_tells seen.dial.past seen.dial.faults seen.sink.output seen.sink.faults office.dial office.wire.sink

-- A question was asked, and its answer or fault is told by this status. The status and the wire that came fix the
-- result, unless memory ran out.
pub record AsksAs (peer : Peer) (question : ByteQuestion) (status : Status) (old new : QueryTells) : Type 0 where
  pub result : Result (Unit {0}) QueryFault
  pub asks : Asks peer question result old new
  pub told : status ≡ status_of result

-- an answer, that there is no such key or no such member, or that no map is fetched or made, or want of memory
abbrev pub IsClientAnswer : Status → Type 0
IsClientAnswer status = (status ≡ Done) ⊎ (status ≡ No) ⊎ (status ≡ NoMemory)

-- the statuses with which a client command may end
abbrev pub ask_may_end : Status → Bool
ask_may_end Done = true
ask_may_end No = true
ask_may_end ReadFault = true
ask_may_end WriteFault = true
ask_may_end (Torn at) = true
ask_may_end (TooLong at) = true
ask_may_end NoMemory = true
ask_may_end (Yp stat) = true
ask_may_end Denied = true
ask_may_end (BadReply at) = true
ask_may_end (BadXid want got) = true
ask_may_end DialFault = true
ask_may_end (Rows row rule) = true
ask_may_end _ = false

-- What a client command does: it asks one server, on one connection, and prints what its replies say, or tells the
-- first refusal. Where the wire that came gives what a server of this product sent in a run over the calls of the
-- question, the text, or the refusal, is what the maps of that server tell at its first call, and for `poll` at its
-- second: all rows of one version, the value of the key in it, its master, its order, the names of maps, whether a
-- group that is reached in it lists a triple that fits, or the status with which a map is fetched or isn't, or isn't
-- made. Where a map is made for it, its status is told, with its cause by the logs before and behind. Where the wire
-- gives whole replies that answer its calls, and nothing fails, it is answered.
pub record AskDoes {S K D C A I T : Type 0} (seen : Seeing S K D C A I T) (peer : Peer) (question : ByteQuestion)
    (status : Status) (old new : Office S K D C A I T) : Type 0 where
  pub asks : AsksAs peer question status (scene seen old) (scene seen new)
  pub prints : (catalogue : Catalogue) (caller : Peer) (turns : List Turn) (rest : List ℕ) (before after : Log)
      → AnswersCalls (query_of catalogue caller question) turns before after
      → HasCome peer (sent_all (replies_of turns) ++ rest) (seen.dial.past old.dial) (seen.dial.past new.dial)
      → PrintsOnLogs (query_of catalogue caller question) before after asks.result (output seen old) (output seen new)
  pub complete : (stream : List ℕ) → HasAnswer question stream
      → HasCome peer stream (seen.dial.past old.dial) (seen.dial.past new.dial)
      → ¬ DialFails seen old new → ¬ WriteFails seen old new → IsClientAnswer status
  pub read_fault : status ≡ ReadFault → DialFails seen old new
  pub write_fault : status ≡ WriteFault → WriteFails seen old new ⊎ DialFails seen old new
  pub dial_fault : status ≡ DialFault → DialFails seen old new
  pub stays : new ≡ record old { wire = record old.wire { sink = new.wire.sink }; dial = new.dial }
  pub letters : seen.dial.letters new.dial ≡ seen.dial.letters old.dial
