-- The calls of `orders` on each wire, and what they come to.
use Rattle.std.specs.Prelude.{ℕ, List, ◌∷◌, Option, Some, None, Result, Ok, Err}
use Rattle.yp_io.specs.declared.stream.Peer.{Peer}
use Rattle.yp_io.specs.Dials.{Dialing}
use Rattle.yp_client.specs.declared.fault.ClientFault.{ClientFault}
use Rattle.yp_client.specs.declared.fault.ClientFault.TheVariants.{Yp}
use Rattle.yp_client.specs.Limits.{reply_max}
use Rattle.yp_client.specs.Results.{master_of, order_of, maps_of}
use Rattle.yp_client.specs.Said.{SaysNumber, SaysBytes, SaysNames}
use Rattle.yp_client.specs.Asked.{master_call, order_call, maplist_call}
use Rattle.yp_client.specs.States.{ClientState}
use Rattle.yp_client.specs.query.Faults.{query_fault}
use Rattle.yp_client.specs.query.Asked.{Outcome, meant_by, CallIsMade, IsUnlessMemory}
use Rattle.yp_client.specs.query.Scenes.{Dials}
use Rattle.yp_client.specs.orders.InTurn.{Step, InTurn, Then, Comes, InMemory}

-- a map, and the name of its master
abbrev pub Mastered : Type 0
Mastered = List ℕ × List ℕ

-- an order for each map, or none where a server has none
abbrev pub Orders : Type 0
Orders = List (Option ℕ)

-- ---- one call

abbrev pub ListsMaps : List ℕ → Step (List (List ℕ)) ClientState
ListsMaps domain outcome old new =
    CallIsMade reply_max (maplist_call domain) (SaysNames maps_of) (meant_by query_fault (λ list. list.maps))
    outcome old new

abbrev pub TellsMaster : List ℕ → List ℕ → Step Mastered ClientState
TellsMaster domain map outcome old new =
    CallIsMade reply_max (master_call domain map) (SaysBytes master_of)
    (meant_by query_fault (λ master. (map, master.now))) outcome old new

-- what ORDER tells: a status in place of an order is none, and no fault
abbrev pub order_told : Result ℕ ClientFault → Outcome (Option ℕ)
order_told (Ok order) = Ok (Some order)
order_told (Err (Yp stat)) = Ok None
order_told (Err fault) = Err (query_fault fault)

abbrev pub TellsOrder : List ℕ → Mastered → Step (Option ℕ) ClientState
TellsOrder domain map outcome old new =
    CallIsMade reply_max (order_call domain map.0) (SaysNumber order_of) order_told outcome old new

-- ---- one wire

-- ORDER of each map, in their order
abbrev pub TellsOrders : List ℕ → List Mastered → Step Orders ClientState
TellsOrders domain maps = InTurn (TellsOrder domain) maps

-- what the first server tells: its maps and their masters, and its orders
pub record Survey : Type 0 where
  pub maps : List Mastered
  pub orders : Orders

abbrev pub survey_of : List Mastered → Orders → Survey
survey_of maps orders = record { maps = maps; orders = orders }

-- ORDER of each of these maps
abbrev pub SurveysOrders : List ℕ → List Mastered → Step Survey ClientState
SurveysOrders domain maps = Then (TellsOrders domain maps) (λ orders. Comes (survey_of maps orders))

-- MASTER of each of these maps, and then ORDER of each
abbrev pub SurveysMaps : List ℕ → List (List ℕ) → Step Survey ClientState
SurveysMaps domain names = Then (InTurn (TellsMaster domain) names) (SurveysOrders domain)

-- MAPLIST, then MASTER of each map that it names, and then ORDER of each
abbrev pub TellsSurvey : List ℕ → Step Survey ClientState
TellsSurvey domain = Then (ListsMaps domain) (SurveysMaps domain)

-- ---- all wires

-- what all servers tell: the survey of the first, and the orders of each other
pub record Comparison : Type 0 where
  pub survey : Survey
  pub others : List Orders

abbrev pub comparison_of : Survey → List Orders → Comparison
comparison_of survey others = record { survey = survey; others = others }

-- a server that is asked for the orders of maps, on a wire of its own
abbrev pub AsksOther : List ℕ → List Mastered → Peer → Step Orders Dialing
AsksOther domain maps peer = InMemory (Dials peer (IsUnlessMemory (TellsOrders domain maps)))

-- each of these servers is asked in turn for its orders of the maps of a survey
abbrev pub AsksOthers : List Peer → List ℕ → Survey → Step Comparison Dialing
AsksOthers others domain survey =
    Then (InTurn (AsksOther domain survey.maps) others) (λ orders. Comes (comparison_of survey orders))

-- the first server is asked for its survey, and then each other
abbrev pub AsksServers : Peer → List Peer → List ℕ → Step Comparison Dialing
AsksServers first others domain = Then (Dials first (IsUnlessMemory (TellsSurvey domain))) (AsksOthers others domain)
