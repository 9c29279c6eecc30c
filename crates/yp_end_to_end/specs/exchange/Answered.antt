-- The calls of a question that a server answers, and what the question then comes to.
use Rattle.std.specs.Prelude.{◌≡◌, ℕ, true, false, List, Option, Some, Result, Ok, Err, ⊤}
use Rattle.yp_io.specs.declared.stream.Peer.{Peer}
use Rattle.yp_answer.specs.Maps.{Maps}
use Rattle.yp_answer.specs.Transfer.{xfr_check}
use Rattle.yp_answer.specs.Make.{make_check}
use Rattle.yp_messages.specs.declared.transfer.XfrStat.{XfrStat}
use Rattle.yp_client.specs.Asked.{pull_request}
use Rattle.yp_client.specs.declared.fault.ClientFault.{ClientFault}
use Rattle.yp_client.specs.declared.fault.ClientFault.TheVariants.{ReadFault, WriteFault}
use Rattle.yp_client.specs.declared.query.fault.QueryFault.{QueryFault}
use Rattle.yp_client.specs.declared.query.fault.QueryFault.TheVariants.{Client, NoMemory}
use Rattle.yp_client.specs.declared.question.Question.TheVariants.{Cat, Catk, Match, Which, Poll, Maps as MapsOf}
use Rattle.yp_client.specs.declared.question.Question.TheVariants.{Innetgr, Pull, Make}
use Rattle.yp_client.specs.Questions.{ByteQuestion}
use Rattle.yp_client.specs.query.Lines.{line, lines, rows_text, standing_text}
use Rattle.yp_client.specs.query.Faults.{query_fault, match_fault}
use Rattle.yp_client.specs.query.Asked.{QueryOutcome, told_by, meant_by, netgroup, membership_told, transfer_told}
use Rattle.yp_client.specs.query.Asked.{making_told}
use Rattle.yp_client.specs.query.Scenes.{Prints}
use Rattle.yp_end_to_end.specs.exchange.Told.{told, rows_tell, map_tells, value_in, all_in, master_in, order_in, names_in}
use Rattle.yp_end_to_end.specs.exchange.Told.{stat_told, made_told}

-- ---- what it comes to

-- the order of one version, and the master of another or the same
abbrev pub standing_told : Result ℕ ClientFault → Result (List ℕ) ClientFault → QueryOutcome
standing_told (Ok order) master = meant_by query_fault (standing_text order) master
standing_told (Err fault) master = Err (query_fault fault)

-- the text of what these maps tell, or the refusal; where a map is made for the question, that has a status
abbrev pub text_told : Maps → Maps → Peer → XfrStat → ByteQuestion → QueryOutcome
text_told first second peer made (Cat domain map) =
    meant_by query_fault (rows_text false) (rows_tell all_in first peer domain map)
text_told first second peer made (Catk domain map) =
    meant_by query_fault (rows_text true) (rows_tell all_in first peer domain map)
text_told first second peer made (Match domain map key) =
    meant_by match_fault line (rows_tell (value_in key) first peer domain map)
text_told first second peer made (Which domain map) =
    meant_by query_fault line (map_tells master_in first domain map)
text_told first second peer made (Poll domain map) =
    standing_told (map_tells order_in first domain map) (map_tells master_in second domain map)
text_told first second peer made (MapsOf domain) =
    meant_by query_fault lines (told (names_in first domain))
text_told first second peer made (Pull domain map source) =
    transfer_told domain map (stat_told (xfr_check first (pull_request domain map source)))
text_told first second peer made (Make domain map) =
    making_told domain map (made_told made (make_check first.catalogue peer domain (Some map)))
text_told first second peer made (Innetgr domain group host user user_domain) =
    told_by query_fault (membership_told group (record { host = host; user = user; domain = user_domain }))
    (rows_tell all_in first peer domain netgroup)

-- The outcome is the expected one, unless memory ran out or the wire failed.
abbrev pub IsOutcomeOf : QueryOutcome → QueryOutcome → Type 0
IsOutcomeOf expected (Err NoMemory) = ⊤
IsOutcomeOf expected (Err (Client ReadFault)) = ⊤
IsOutcomeOf expected (Err (Client WriteFault)) = ⊤
IsOutcomeOf expected outcome = outcome ≡ expected

-- The outcome of a question was printed: the expected one, unless memory ran out or the wire failed. Unless memory ran
-- out, the result and the expected outcome fix it.
pub record PrintsTold (question : ByteQuestion) (expected : QueryOutcome) (result : Result (Unit {0}) QueryFault)
    (before after : Option (List ℕ)) : Type 0 where
  pub outcome : QueryOutcome
  pub comes_to : IsOutcomeOf expected outcome
  pub prints : Prints question outcome result before after
