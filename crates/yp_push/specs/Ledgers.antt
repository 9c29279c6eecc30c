-- A push as a whole: its numbers, and what happened so far.
use Rattle.std.specs.Prelude.{ℕ, ◌<◌, Bool, List, [], ◌∷◌, ◌++◌, length, Option, Some, None, ◌&&◌, not, nat_lt}
use Rattle.std.specs.Prelude.{nat_lt, if◌then◌else◌, count_by, IsTrue}
use Rattle.std.specs.List.{list_any, filter_map}
use Rattle.yp_push.specs.declared.event.Event.{Event}
use Rattle.yp_push.specs.declared.event.Event.TheVariants.{Sent, Failed, Refused, Called, Quiet}
use Rattle.yp_push.specs.declared.ledger.Sending.{Sending}
use Rattle.yp_push.specs.declared.outcome.Outcome.{Outcome}
use Rattle.yp_push.specs.Results.{transid_of, is_quiet, since_sending}
use Rattle.yp_push.specs.Results.{result_of, is_unanswered, is_settled}

-- how many slaves there are at most
abbrev pub slaves_max : ℕ
slaves_max = 4096

-- how many slaves there are, the transaction of the first, how many may be outstanding, and what happened
pub record Ledger : Type 0 where
  pub slaves : ℕ
  pub first : ℕ
  pub window : ℕ
  pub events : List Event

-- what came of a slave
abbrev pub outcome_at : Ledger → ℕ → Outcome
outcome_at ledger slave = result_of ledger.first slave ledger.events

-- the ledger after one more event
abbrev pub with_event : Ledger → Event → Ledger
with_event ledger event = record ledger { events = ledger.events ++ event ∷ [] }

-- the slave that was asked
abbrev pub asked_by : Event → Option ℕ
asked_by (Sent slave) = Some slave
asked_by (Failed _ _) = None
asked_by (Refused _ _) = None
asked_by (Called _ _) = None
asked_by Quiet = None

-- the slaves that were asked, in their order
unfoldable pub asked : List Event → List ℕ
asked events = filter_map asked_by events

-- a slave was passed over where nothing came since it was asked
abbrev pub is_passed_over : ℕ → List Event → Bool
is_passed_over slave events = list_any is_quiet (since_sending slave events)

-- a slave is outstanding where it was asked, has no result, and wasn't passed over
abbrev pub is_outstanding : (first : ℕ) → List Event → ℕ → Bool
is_outstanding first events slave = is_unanswered (result_of first slave events) && not (is_passed_over slave events)

-- how many slaves are outstanding
unfoldable pub outstanding : (first : ℕ) → List Event → ℕ
outstanding first events = count_by (is_outstanding first events) (asked events)

-- the next slave, if it is one of them
abbrev pub sending_of : Ledger → ℕ → Sending
sending_of ledger slave = record { slave = slave; transid = transid_of ledger.first slave }

-- The slaves are asked in their order. None is asked where all were, or where as many as the window has are
-- outstanding.
abbrev pub next_sending : Ledger → Option Sending
next_sending ledger =
    if nat_lt (length (asked ledger.events)) ledger.slaves
    && nat_lt (outstanding ledger.first ledger.events) ledger.window
    then Some (sending_of ledger (length (asked ledger.events)))
    else None

-- nothing more is expected of any slave
abbrev pub PushIsDone : Ledger → Type 0
PushIsDone ledger = (slave : ℕ) → slave < ledger.slaves → IsTrue (is_settled (outcome_at ledger slave))
