-- What a call asked for that has a map made or fetched, the status that it was answered, and which calls are looked at
-- for that.
use Rattle.std.specs.Prelude.{ℕ, ℤ, Bool, true, false, ◌||◌, ◌&&◌, ◌==◌, List, drop, Option, Some, None, option_map}
use Rattle.std.specs.Prelude.{Result, Ok, Err}
use Rattle.std.specs.Option.{option_and_then}
use Rattle.std.specs.Result.{result_ok}
use Rattle.yp_xdr.specs.Kind.{U32}
use Rattle.yp_xdr.specs.declared.fault.XdrFault.{XdrFault}
use Rattle.yp_messages.specs.Numbers as numbers
use Rattle.yp_messages.specs.Messages.{req_nokey}
use Rattle.yp_messages.specs.Transfers.{req_make, req_xfr, resp_make, resp_xfr, xfr_number}
use Rattle.yp_rpc.specs.declared.judging.Judged.{Judged}
use Rattle.yp_rpc.specs.declared.judging.Judged.TheVariants.{Ignored, Refused, Admitted}
use Rattle.yp_rpc.specs.declared.reply.ReplyHead.{ReplyHead}
use Rattle.yp_rpc.specs.declared.reply.ReplyHead.TheVariants.{Success}
use Rattle.yp_rpc.specs.declared.reply.ReplyRead.{ReplyRead}
use Rattle.yp_rpc.specs.Judging.{judged}
use Rattle.yp_rpc.specs.inside.Read.{reply_read}
use Rattle.yp_answer.specs.declared.outcome.Outcome.{Outcome}
use Rattle.yp_answer.specs.declared.procedure.Path.TheVariants.{Stream}
use Rattle.yp_answer.specs.declared.procedure.Procedure.{Procedure}
use Rattle.yp_answer.specs.declared.procedure.Procedure.TheVariants.{Xfr, Make, MakeNamed}
use Rattle.yp_answer.specs.Procedures.{programs_on}
use Rattle.yp_answer.specs.Make.{map_numbered}
use Rattle.yp_answer.specs.Reply.{arguments_of}

-- a map that was to be made, or else to be fetched: its domain, its name, where there is one, and the number of the
-- status that the call was answered
pub record MapOutcome : Type 0 where
  pub is_make : Bool
  pub domain : List ℕ
  pub map : Option (List ℕ)
  pub stat : ℤ

-- the results of a reply with success
abbrev pub results_under : ReplyHead → List ℕ → Option (List ℕ)
results_under Success results = Some results
results_under _ results = None

abbrev pub results_read : List ℕ → Result ReplyRead XdrFault → Option (List ℕ)
results_read reply (Ok read) = results_under read.head (drop read.body reply)
results_read reply (Err fault) = None

abbrev pub results_in : List ℕ → Option (List ℕ)
results_in reply = results_read reply (reply_read reply)

-- the number of the status in a reply of the make program, whose results are read as arguments are
abbrev pub make_stat_in : List ℕ → Option ℤ
make_stat_in reply = option_and_then (λ results. result_ok (arguments_of resp_make results)) (results_in reply)

-- the number of the status in a reply of XFR, behind its transaction
abbrev pub xfr_stat_in : List ℕ → Option ℤ
xfr_stat_in reply =
    option_and_then (λ results. option_map (λ given. given.1) (result_ok (arguments_of resp_xfr results)))
    (results_in reply)

-- what was asked for, where there is a status
abbrev pub answered : Bool → List ℕ → Option (List ℕ) → Option ℤ → Option MapOutcome
answered is_make domain map stat =
    option_map (λ number. record { is_make = is_make; domain = domain; map = map; stat = number }) stat

-- what a procedure was asked for by its arguments, and what it answered
abbrev pub outcome_in : Procedure → List ℕ → List ℕ → Option MapOutcome
outcome_in Make arguments reply =
    option_and_then (λ asked. answered true asked.0 (map_numbered asked.1) (make_stat_in reply))
    (result_ok (arguments_of req_make arguments))
outcome_in MakeNamed arguments reply =
    option_and_then (λ asked. answered true asked.0 (Some asked.1) (make_stat_in reply))
    (result_ok (arguments_of req_nokey arguments))
outcome_in Xfr arguments reply =
    option_and_then (λ asked. answered false asked.0 (Some asked.1.0) (xfr_stat_in reply))
    (result_ok (arguments_of req_xfr arguments))
outcome_in _ arguments reply = None

abbrev pub judged_outcome : List ℕ → List ℕ → Judged Procedure → Option MapOutcome
judged_outcome message reply Ignored = None
judged_outcome message reply (Refused xid head) = None
judged_outcome message reply (Admitted call procedure) = outcome_in procedure (drop call.body message) reply

-- what a call asked for, and what its reply says
abbrev pub outcome_of : List ℕ → List ℕ → Option MapOutcome
outcome_of message reply = judged_outcome message reply (judged (programs_on Stream) message)

-- as the code has it
abbrev pub outcome_view : Outcome → MapOutcome
outcome_view outcome = record {
  is_make = outcome.is_make;
  domain = outcome.domain.now;
  map = option_map (λ name. name.now) outcome.map;
  stat = xfr_number outcome.stat;
}

-- the number at a place of a message
abbrev pub number_at : ℕ → List ℕ → Option ℕ
number_at place message = result_ok (arguments_of U32 (drop place message))

-- the number of XFR
abbrev pub is_xfr : Option ℕ → Bool
is_xfr None = false
is_xfr (Some procedure) = procedure == numbers.xfr_procedure

-- the number of the make program, or that of YP with the number of XFR
abbrev pub is_of_map : Option ℕ → Option ℕ → Bool
is_of_map None procedure = false
is_of_map (Some program) procedure =
    (program == numbers.make_program) || ((program == numbers.program) && is_xfr procedure)

-- a message whose program and procedure have such numbers, by their places
abbrev pub may_have_outcome : List ℕ → Bool
may_have_outcome message = is_of_map (number_at 12 message) (number_at 20 message)
