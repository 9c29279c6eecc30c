-- What is told of a push: a line for each slave, in their order.
use Rattle.std.specs.Prelude.{◌≡◌, ℕ, ◌+◌, ◌<◌, Bool, true, false, List, [], ◌∷◌, ◌++◌, Option, Some, None, codes}
use Rattle.std.specs.Fmt.{signed_decimal}
use Rattle.yp_messages.specs.declared.transfer.XfrStat.{XfrStat}
use Rattle.yp_messages.specs.declared.transfer.XfrStat.TheVariants.{Succ, Age}
use Rattle.yp_messages.specs.declared.transfer.XfrStat.TheVariants as stat
use Rattle.yp_messages.specs.Transfers.{xfr_number}
use Rattle.yp_push.specs.declared.outcome.Missed.TheVariants.{Rpc, Maddr}
use Rattle.yp_push.specs.declared.outcome.Outcome.{Outcome}
use Rattle.yp_push.specs.declared.outcome.Outcome.TheVariants.{Unsent, Unanswered, Missed, Answered}
use Rattle.yp_push.specs.Ledgers.{Ledger, outcome_at}
use Rattle.yp_push.specs.turns.Pushers.{Slave, Pushing}

-- the status of a slave, if it has one: that of its answer, or why it couldn't be asked
abbrev pub stat_of : Outcome → Option XfrStat
stat_of Unsent = None
stat_of Unanswered = None
stat_of (Missed Rpc) = Some stat.Rpc
stat_of (Missed Maddr) = Some stat.Maddr
stat_of (Answered status) = Some status

abbrev pub stat_text : Option XfrStat → List ℕ
stat_text None = codes "none"
stat_text (Some status) = signed_decimal (xfr_number status)

-- the line of a slave: its name and the number of its status, or that it has none
abbrev pub slave_line : List ℕ → Outcome → List ℕ
slave_line name outcome = name ++ codes " " ++ stat_text (stat_of outcome) ++ codes "\n"

-- the lines of slaves, of which the first has this number
abbrev pub lines_from : ℕ → List Slave → Ledger → List ℕ
lines_from number [] ledger = []
lines_from number (slave ∷ slaves) ledger =
    slave_line slave.0 (outcome_at ledger number) ++ lines_from (number + 1) slaves ledger

abbrev pub push_text : {A : Type 0} → Pushing A → List ℕ
push_text pushing = lines_from 0 pushing.slaves pushing.ledger

-- a slave has the map: it fetched it, or had one that is as new
abbrev pub has_map : Option XfrStat → Bool
has_map (Some Succ) = true
has_map (Some Age) = true
has_map status = false

-- each slave has the map
abbrev pub AllHaveMap : {A : Type 0} → Pushing A → Type 0
AllHaveMap pushing =
    (slave : ℕ) → slave < pushing.ledger.slaves → has_map (stat_of (outcome_at pushing.ledger slave)) ≡ true
