-- What a server does in a run on logs, for the calls of a client.
use Rattle.std.specs.Prelude.{ℕ, ◌≤◌, All, List, ◌++◌, length, Result}
use Rattle.yp_io.specs.declared.stream.Peer.{Peer}
use Rattle.yp_board.specs.Catalogues.{Catalogue}
use Rattle.yp_board.specs.Logs.{Log}
use Rattle.yp_answer.specs.declared.procedure.Path.TheVariants.{Stream}
use Rattle.yp_answer.specs.Served.{AreServed, maps_on}
use Rattle.yp_answer.specs.session.Hosts.{Turn}
use Rattle.yp_answer.specs.session.LogRuns.{LogRun}
use Rattle.yp_client.specs.Asked.{match_call, first_call, next_call, all_call, master_call, order_call}
use Rattle.yp_client.specs.inside.Asked.{domain_call}
use Rattle.yp_client.specs.Asked.{maplist_call, pull_call}
use Rattle.yp_messages.specs.Numbers.{name_max}
use Rattle.yp_client.specs.declared.query.fault.QueryFault.{QueryFault}
use Rattle.yp_client.specs.Questions.{ByteQuestion}
use Rattle.yp_client.specs.inside.Questions.{QuestionIsWithin}
use Rattle.yp_client.specs.query.Complete.{HasCome}
use Rattle.yp_client.specs.query.Scenes.{QueryTells, Asks}
use Rattle.yp_end_to_end.specs.inside.exchange.Laws.{ForDomain, ForMap, ForKey}
use Rattle.yp_end_to_end.specs.exchange.Runs.{sent_all, query_of, PrintsOnLogs}
use Rattle.yp_end_to_end.specs.inside.exchange.Runs.{RepliesInTurn, inquiry_of, RepliesOn}
use Rattle.yp_end_to_end.specs.exchange.LogRuns.{records_of, replies_of, AnsweredOn}
use Rattle.yp_end_to_end.specs.inside.exchange.LogRuns.{RepliesAtOnce, GetsReply, IsRepliedTo, IsAnswered}
use Rattle.yp_end_to_end.specs.exchange.LogRuns.{AnswersCalls}

-- each call of a client that asks for what the maps have gets one reply, at once
abbrev pub DomainHasReply : Type 0
DomainHasReply = ForDomain (λ maps peer xid domain. RepliesAtOnce maps peer (domain_call domain xid))

abbrev pub MatchHasReply : Type 0
MatchHasReply = ForKey (λ maps peer xid domain map key. RepliesAtOnce maps peer (match_call domain map key xid))

abbrev pub FirstHasReply : Type 0
FirstHasReply = ForMap (λ maps peer xid domain map. RepliesAtOnce maps peer (first_call domain map xid))

abbrev pub NextHasReply : Type 0
NextHasReply = ForKey (λ maps peer xid domain map key. RepliesAtOnce maps peer (next_call domain map key xid))

abbrev pub AllHasReply : Type 0
AllHasReply = ForMap (λ maps peer xid domain map. RepliesAtOnce maps peer (all_call domain map xid))

abbrev pub MasterHasReply : Type 0
MasterHasReply = ForMap (λ maps peer xid domain map. RepliesAtOnce maps peer (master_call domain map xid))

abbrev pub OrderHasReply : Type 0
OrderHasReply = ForMap (λ maps peer xid domain map. RepliesAtOnce maps peer (order_call domain map xid))

abbrev pub MaplistHasReply : Type 0
MaplistHasReply = ForDomain (λ maps peer xid domain. RepliesAtOnce maps peer (maplist_call domain xid))

-- and so does XFR, of which a transfer may be taken
abbrev pub PullHasReply : Type 0
PullHasReply = ForMap (λ maps peer xid domain map. (source : List ℕ) → length source ≤ name_max
    → GetsReply maps peer (pull_call domain map source xid))

-- Where each record of a run is one that gets a reply, the run answered them one after the other, each on the state of
-- a log that begins with the one before.
abbrev pub RunIsInTurn : Type 0
RunIsInTurn =
    (catalogue : Catalogue) (peer : Peer) (turns : List Turn) (before after : Log)
    → AreServed (maps_on catalogue after)
    → LogRun catalogue Stream peer turns before after
    → All (IsAnswered peer) (records_of turns)
    → RepliesInTurn catalogue peer (records_of turns) (replies_of turns) before after

-- Where each gets its reply at once, the replies of a run are those to its records in turn, on the logs of the run.
abbrev pub RunIsOnLogs : Type 0
RunIsOnLogs =
    (catalogue : Catalogue) (peer : Peer) (turns : List Turn) (logs : List Log) (before after : Log)
    → AreServed (maps_on catalogue after)
    → AnsweredOn catalogue peer turns logs before after
    → All (IsRepliedTo peer) (records_of turns)
    → RepliesOn (inquiry_of catalogue peer) (records_of turns) (replies_of turns) logs before after

-- A question prints what the maps of a server tell, where the wire gives what that server sent in a run over the calls
-- of the question.
abbrev pub LogRunIsPrinted : Type 0
LogRunIsPrinted =
    (catalogue : Catalogue) (server caller : Peer) (question : ByteQuestion) (turns : List Turn) (rest : List ℕ)
    (before after : Log) (result : Result (Unit {0}) QueryFault) (old new : QueryTells)
    → QuestionIsWithin question
    → AnswersCalls (query_of catalogue caller question) turns before after
    → HasCome server (sent_all (replies_of turns) ++ rest) old.dial.past new.dial.past
    → Asks server question result old new
    → PrintsOnLogs (query_of catalogue caller question) before after result old.output new.output
