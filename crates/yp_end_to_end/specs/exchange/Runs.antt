-- A server's replies to the calls of a question in turn, while versions of its maps are shown.
use Rattle.std.specs.Prelude.{ℕ, List, [], ◌∷◌, flat_map, Option, Some, Result, Ok, Err, ⊤}
use Rattle.yp_io.specs.declared.stream.Peer.{Peer}
use Rattle.yp_rpc.specs.Records.{sent}
use Rattle.yp_board.specs.Catalogues.{Catalogue}
use Rattle.yp_board.specs.Logs.{Log}
use Rattle.yp_board.specs.Views.{IsFront}
use Rattle.yp_messages.specs.declared.transfer.XfrStat.{XfrStat}
use Rattle.yp_answer.specs.declared.make.MakeJob.{MakeJob}
use Rattle.yp_answer.specs.Make.{make_check}
use Rattle.yp_answer.specs.Causes.{Told, IsCaused}
use Rattle.yp_answer.specs.Served.{maps_on}
use Rattle.yp_client.specs.declared.fault.ClientFault.{ClientFault}
use Rattle.yp_client.specs.Results.{order_of}
use Rattle.yp_client.specs.Asked.{all_call, match_call, master_call, order_call, maplist_call, pull_call}
use Rattle.yp_client.specs.Asked.{make_named_call}
use Rattle.yp_client.specs.declared.query.fault.QueryFault.{QueryFault}
use Rattle.yp_client.specs.declared.question.Question.TheVariants.{Cat, Catk, Match, Which, Poll, Maps as MapsOf}
use Rattle.yp_client.specs.declared.question.Question.TheVariants.{Innetgr, Pull, Make}
use Rattle.yp_client.specs.Questions.{ByteQuestion}
use Rattle.yp_client.specs.query.Asked.{netgroup}
use Rattle.yp_end_to_end.specs.exchange.Answered.{text_told, PrintsTold}

-- what is sent of them
abbrev pub sent_all : List (List ℕ) → List ℕ
sent_all replies = flat_map sent replies

-- a call that is made behind an order number, and not behind a refusal
abbrev pub behind_order : List ℕ → Result ℕ ClientFault → List (List ℕ)
behind_order call (Ok order) = call ∷ []
behind_order call (Err fault) = []

abbrev pub poll_calls : List ℕ → List ℕ → List (List ℕ) → List (List ℕ)
poll_calls domain map [] = order_call domain map 1 ∷ []
poll_calls domain map (bytes ∷ replies) =
    order_call domain map 1 ∷ behind_order (master_call domain map 2) (order_of 1 bytes)

-- the calls that are made for a question, which get these replies
abbrev pub calls_made : ByteQuestion → List (List ℕ) → List (List ℕ)
calls_made (Cat domain map) replies = all_call domain map 1 ∷ []
calls_made (Catk domain map) replies = all_call domain map 1 ∷ []
calls_made (Match domain map key) replies = match_call domain map key 1 ∷ []
calls_made (Which domain map) replies = master_call domain map 1 ∷ []
calls_made (Poll domain map) replies = poll_calls domain map replies
calls_made (MapsOf domain) replies = maplist_call domain 1 ∷ []
calls_made (Pull domain map source) replies = pull_call domain map source 1 ∷ []
calls_made (Make domain map) replies = make_named_call domain map 1 ∷ []
calls_made (Innetgr domain group host user user_domain) replies = all_call domain netgroup 1 ∷ []

-- A map that was made has a status with a cause by the logs before and behind it, by a text and a moment that were
-- told. A call that is refused makes none.
abbrev pub JobHasCause : Catalogue → Result MakeJob XfrStat → XfrStat → Log → Log → Type 0
JobHasCause catalogue (Ok job) made old new = (told : Told) × IsCaused told catalogue job made old new
JobHasCause catalogue (Err stat) made old new = ⊤

-- where a map is made for a question
abbrev pub MadeHasCause : Catalogue → Peer → ByteQuestion → XfrStat → Log → Log → Type 0
MadeHasCause catalogue peer (Make domain map) made old new =
    JobHasCause catalogue (make_check catalogue peer domain (Some map)) made old new
MadeHasCause catalogue peer question made old new = ⊤

-- a question that a caller asks of the maps of a catalogue
pub record Query : Type 0 where
  pub catalogue : Catalogue
  pub caller : Peer
  pub question : ByteQuestion

abbrev pub query_of : Catalogue → Peer → ByteQuestion → Query
query_of catalogue caller question = record { catalogue = catalogue; caller = caller; question = question }

-- What these maps tell was printed, on two logs between an old and a new one, of which the second begins with the
-- first: what is asked for first is told on the one, and what is asked for second on the other, and a map that is made
-- is made between them. At which moments they were so isn't said.
pub record PrintsOnLogs (query : Query) (old new : Log) (result : Result (Unit {0}) QueryFault)
    (before after : Option (List ℕ)) : Type 0 where
  pub first : Log
  pub second : Log
  pub begins : IsFront old first
  pub grows : IsFront first second
  pub ends : IsFront second new
  pub made : XfrStat
  pub caused : MadeHasCause query.catalogue query.caller query.question made first second
  pub printed : PrintsTold query.question
      (text_told (maps_on query.catalogue first) (maps_on query.catalogue second) query.caller made query.question)
      result before after
