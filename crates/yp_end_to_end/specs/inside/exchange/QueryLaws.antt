-- What a question comes to is what the maps of the server have, where the wire gives the replies of that server.
use Rattle.std.specs.Prelude.{◌≡◌, List, ◌++◌, ℕ, Some, Result}
use Rattle.yp_io.specs.declared.stream.Peer.{Peer}
use Rattle.yp_messages.specs.declared.transfer.XfrStat.{XfrStat}
use Rattle.yp_board.specs.Catalogues.{Catalogue}
use Rattle.yp_board.specs.Logs.{Log}
use Rattle.yp_answer.specs.Maps.{Maps}
use Rattle.yp_answer.specs.Served.{AreServed, maps_on}
use Rattle.yp_client.specs.States.{ClientState, IsFirst}
use Rattle.yp_client.specs.declared.query.fault.QueryFault.{QueryFault}
use Rattle.yp_client.specs.Questions.{ByteQuestion}
use Rattle.yp_client.specs.inside.Questions.{QuestionIsWithin}
use Rattle.yp_client.specs.query.Asked.{QueryOutcome, Converses}
use Rattle.yp_client.specs.query.Complete.{HasCome, HasAnswer}
use Rattle.yp_client.specs.query.Scenes.{QueryTells, Asks}
use Rattle.yp_end_to_end.specs.exchange.Runs.{sent_all, calls_made, query_of, PrintsOnLogs}
use Rattle.yp_end_to_end.specs.inside.exchange.Runs.{RepliesInTurn}
use Rattle.yp_end_to_end.specs.exchange.Answered.{text_told, IsOutcomeOf, PrintsTold}
use Rattle.yp_end_to_end.specs.inside.exchange.Answered.{GivesReplies, HasText}

-- the calls of a question over such a wire come to the text of what the maps tell
abbrev pub CallsAreTold : Type 0
CallsAreTold =
    (first second : Maps) (caller : Peer) (made : XfrStat) (question : ByteQuestion) (stream : List ℕ)
    (outcome : QueryOutcome) (old new : ClientState)
    → AreServed first
    → AreServed second
    → QuestionIsWithin question
    → GivesReplies first second caller made question stream
    → IsFirst old
    → old.wire.input ≡ Some stream
    → Converses question outcome old new
    → IsOutcomeOf (text_told first second caller made question) outcome

-- A question prints what the maps of a server tell, where the wire to that server gives its replies to the calls of the
-- question, on two states of its maps.
abbrev pub QueryPrintsTold : Type 0
QueryPrintsTold =
    (first second : Maps) (server caller : Peer) (made : XfrStat) (question : ByteQuestion) (stream : List ℕ)
    (result : Result (Unit {0}) QueryFault) (old new : QueryTells)
    → AreServed first
    → AreServed second
    → QuestionIsWithin question
    → GivesReplies first second caller made question stream
    → HasCome server stream old.dial.past new.dial.past
    → Asks server question result old new
    → PrintsTold question (text_told first second caller made question) result old.output new.output

-- A question prints what the maps of a server tell, where the wire gives the replies of that server to the calls of the
-- question in turn, while its log grows: the two states of the maps are those of two logs between the first and the
-- last.
abbrev pub RunIsPrinted : Type 0
RunIsPrinted =
    (catalogue : Catalogue) (server caller : Peer) (question : ByteQuestion) (replies : List (List ℕ))
    (rest : List ℕ) (before after : Log) (result : Result (Unit {0}) QueryFault) (old new : QueryTells)
    → AreServed (maps_on catalogue after)
    → QuestionIsWithin question
    → RepliesInTurn catalogue caller (calls_made question replies) replies before after
    → HasCome server (sent_all replies ++ rest) old.dial.past new.dial.past
    → Asks server question result old new
    → PrintsOnLogs (query_of catalogue caller question) before after result old.output new.output

-- Where the maps tell a text, or that there is no such key, or that no map is fetched or made, such a wire answers the
-- calls of the question.
abbrev pub ToldIsAnswered : Type 0
ToldIsAnswered =
    (first second : Maps) (caller : Peer) (made : XfrStat) (question : ByteQuestion) (stream : List ℕ)
    → AreServed first
    → AreServed second
    → QuestionIsWithin question
    → GivesReplies first second caller made question stream
    → HasText (text_told first second caller made question)
    → HasAnswer question stream
