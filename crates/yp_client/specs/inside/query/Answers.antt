-- What the calls of a query came to.
use Rattle.std.specs.Prelude.{ℕ, List, Result, Ok, Err}
use Rattle.yp_client.specs.declared.query.fault.QueryFault.{QueryFault}
use Rattle.yp_client.specs.declared.query.answer.Answer.{Answer}
use Rattle.yp_client.specs.declared.query.answer.Answer.TheVariants.{Rows, Line, Standing, Maps, Membership}
use Rattle.yp_version.specs.Rows.{Row}
use Rattle.yp_version.specs.Versions.{MapVersion}
use Rattle.yp_client.specs.query.Lines.{line, lines, rows_text, standing_text, membership_text}
use Rattle.yp_client.specs.query.Asked.{QueryOutcome, membership_outcome}

-- the text of an answer
abbrev pub answer_text : Answer → List ℕ
answer_text (Rows version keyed) = rows_text keyed version.rows
answer_text (Line text) = line text.items
answer_text (Standing order master) = standing_text order master.items
answer_text (Maps names) = lines names
answer_text (Membership is_member) = membership_text is_member

-- what an answer comes to: its text, and a no is told apart
abbrev pub answer_outcome : Answer → QueryOutcome
answer_outcome (Membership is_member) = membership_outcome is_member
answer_outcome answer = Ok (answer_text answer)

abbrev pub outcome_of : Result Answer QueryFault → QueryOutcome
outcome_of (Ok answer) = answer_outcome answer
outcome_of (Err fault) = Err fault

-- what is meant by the rows of a version, or why there is none
abbrev pub version_outcome : (List Row → QueryOutcome) → Result MapVersion QueryFault → QueryOutcome
version_outcome means (Ok version) = means version.rows
version_outcome means (Err fault) = Err fault

-- what is told of an outcome that was printed
abbrev pub said : QueryOutcome → Result (Unit {0}) QueryFault
said (Ok text) = Ok tt
said (Err fault) = Err fault
