-- What came of a slave of a push (yppush), as a function of the list of what happened.
use Rattle.std.specs.Prelude.{ℕ, ◌+◌, ◌%◌, ◌^◌, Bool, true, false, List, [], ◌∷◌, Option, Some, None, ◌==◌}
use Rattle.std.specs.Prelude.{if◌then◌else◌}
use Rattle.std.specs.List.{list_any, filter_map, after_first}
use Rattle.yp_messages.specs.declared.transfer.XfrStat.{XfrStat}
use Rattle.yp_push.specs.declared.event.Event.{Event}
use Rattle.yp_push.specs.declared.event.Event.TheVariants.{Sent, Failed, Refused, Called, Quiet}
use Rattle.yp_push.specs.declared.outcome.Missed.{Missed}
use Rattle.yp_push.specs.declared.outcome.Outcome.{Outcome}
use Rattle.yp_push.specs.declared.outcome.Outcome.TheVariants.{Unsent, Unanswered, Missed as WasMissed, Answered}

-- the number of a slave's transaction: they count from the first one on, and begin anew behind the last number of 32
-- bits
abbrev pub transid_of : (first slave : ℕ) → ℕ
transid_of first slave = (first + slave) % 2 ^ 32

-- the slave was asked
abbrev pub is_sending : ℕ → Event → Bool
is_sending slave (Sent asked) = asked == slave
is_sending slave (Failed _ _) = false
is_sending slave (Refused _ _) = false
is_sending slave (Called _ _) = false
is_sending slave Quiet = false

-- nothing came
abbrev pub is_quiet : Event → Bool
is_quiet (Sent _) = false
is_quiet (Failed _ _) = false
is_quiet (Refused _ _) = false
is_quiet (Called _ _) = false
is_quiet Quiet = true

-- what a slave answered, at once or by a call with its transaction
abbrev pub answer_of : (first slave : ℕ) → Event → Option XfrStat
answer_of first slave (Sent _) = None
answer_of first slave (Failed _ _) = None
answer_of first slave (Refused asked stat) = if asked == slave then Some stat else None
answer_of first slave (Called transid stat) = if transid == transid_of first slave then Some stat else None
answer_of first slave Quiet = None

-- why a slave couldn't be asked
abbrev pub miss_of : ℕ → Event → Option Missed
miss_of slave (Sent _) = None
miss_of slave (Failed asked missed) = if asked == slave then Some missed else None
miss_of slave (Refused _ _) = None
miss_of slave (Called _ _) = None
miss_of slave Quiet = None

-- whether a slave was asked
abbrev pub is_sent : ℕ → List Event → Bool
is_sent slave events = list_any (is_sending slave) events

-- what happened since a slave was asked
unfoldable pub since_sending : ℕ → List Event → List Event
since_sending slave events = after_first (is_sending slave) events

-- the first of a list
abbrev pub first_of : {X : Type 0} → List X → Option X
first_of [] = None
first_of (x ∷ xs) = Some x

-- the first answer counts, and without one the failure
abbrev pub outcome_of : Option XfrStat → Option Missed → Outcome
outcome_of (Some stat) _ = Answered stat
outcome_of None (Some missed) = WasMissed missed
outcome_of None None = Unanswered

-- the outcome of a slave, by whether it was asked, what it answered, and why it couldn't be asked
abbrev pub outcome_by : Bool → Option XfrStat → Option Missed → Outcome
outcome_by false answer miss = Unsent
outcome_by true answer miss = outcome_of answer miss

-- what came of a slave, by the events since it was asked
unfoldable pub result_of : (first slave : ℕ) → List Event → Outcome
result_of first slave events = outcome_by
    (is_sent slave events)
    (first_of (filter_map (answer_of first slave) (since_sending slave events)))
    (first_of (filter_map (miss_of slave) (since_sending slave events)))

-- A slave was asked, and hasn't answered yet.
abbrev pub is_unanswered : Outcome → Bool
is_unanswered Unsent = false
is_unanswered Unanswered = true
is_unanswered (WasMissed _) = false
is_unanswered (Answered _) = false

-- nothing more is expected of it
abbrev pub is_settled : Outcome → Bool
is_settled Unsent = false
is_settled Unanswered = false
is_settled (WasMissed _) = true
is_settled (Answered _) = true
