-- What joins a session and a client that asks it.
use Rattle.std.specs.Prelude.{◌≡◌, ◌≢◌, ℕ, List, [], ◌++◌, Some}
use Rattle.yp_io.specs.declared.stream.Peer.{Peer}
use Rattle.yp_board.specs.Views.{Seen}
use Rattle.yp_command.specs.Words.{nobody}
use Rattle.yp_answer.specs.session.Wires.{Wire}
use Rattle.yp_answer.specs.declared.session.session.End.{End}
use Rattle.yp_answer.specs.declared.session.session.End.TheVariants.{WriteFault}
use Rattle.yp_host.specs.Connections.{Service, Connection, ServesConnection, log_of}
use Rattle.yp_client.specs.Questions.{ByteQuestion}
use Rattle.yp_client.specs.query.Complete.{HasCome}
use Rattle.yp_end_to_end.specs.exchange.Runs.{calls_made, query_of, PrintsOnLogs}
use Rattle.yp_end_to_end.specs.exchange.LogRuns.{records_of, replies_of}
use Rattle.yp_command.specs.declared.office.office.Office.{Office}
use Rattle.yp_command.specs.declared.office.status.Status.{Status}
use Rattle.yp_command.specs.office.Seeing.{Seeing, output}
use Rattle.yp_command_serve.specs.Served.{RecordsAreAnswered}
use Rattle.yp_program.specs.Asking.{AskDoes}

-- A connection was served whose records were the calls of a question, and its output took these bytes. Where a client
-- that asked that question got a wire with them, it printed what the maps of the connection told between its first
-- host and its last: the text, or the refusal.
abbrev pub SessionIsPrinted : {D E S K F C A I T : Type 0} → Service D Seen E → Seeing S K F C A I T → Type 0
SessionIsPrinted {D} {E} {S} {K} {F} {C} {A} {I} {T} service seen =
    (end : End) (old new : Connection D E) (wires : List Wire) (serves : ServesConnection service end old new wires)
    (taken rest : List ℕ) (server : Peer) (question : ByteQuestion) (status : Status)
    (before after : Office S K F C A I T) (asks : AskDoes seen server question status before after)
    → records_of serves.runs.turns ≡ calls_made question (replies_of serves.runs.turns)
    → end ≢ WriteFault → old.wire.sink.output ≡ Some [] → new.wire.sink.output ≡ Some taken
    → HasCome server (taken ++ rest) (seen.dial.past before.dial) (seen.dial.past after.dial)
    → PrintsOnLogs (query_of service.catalogue service.peer question) (log_of service serves.start)
    (log_of service serves.finish) asks.asks.result (output seen before) (output seen after)

-- A client command prints what the board of `once` tells, where its wire gives what `once` sent for the calls of the
-- question.
abbrev pub OnceIsPrinted : {S K F C A I T : Type 0} → Seeing S K F C A I T → Type 0
OnceIsPrinted {S} {K} {F} {C} {A} {I} {T} seen =
    (board : Seen) (served : Status) (old new : Wire) (wires : List Wire)
    (answers : RecordsAreAnswered board served old new wires)
    (taken rest : List ℕ) (server : Peer) (question : ByteQuestion) (status : Status)
    (before after : Office S K F C A I T) (asks : AskDoes seen server question status before after)
    → records_of answers.runs.turns ≡ calls_made question (replies_of answers.runs.turns)
    → answers.end ≢ WriteFault → old.sink.output ≡ Some [] → new.sink.output ≡ Some taken
    → HasCome server (taken ++ rest) (seen.dial.past before.dial) (seen.dial.past after.dial)
    → PrintsOnLogs (query_of board.catalogue nobody question) board.known answers.finish.board.known
    asks.asks.result (output seen before) (output seen after)
