-- What the code keeps of a push.
use Rattle.std.specs.Prelude.{◌≡◌, ℕ, ◌^◌, ◌<◌, ◌≤◌, List, length, nat_lt, slice_index_or}
use Rattle.std.specs.List.{range_with_len}
use Rattle.yp_push.specs.declared.event.Event.{Event}
use Rattle.yp_push.specs.declared.outcome.Outcome.{Outcome}
use Rattle.yp_push.specs.declared.outcome.Outcome.TheVariants.{Unsent}
use Rattle.yp_push.specs.declared.ledger.Push.TheInside.{Inside}
use Rattle.yp_push.specs.Results.{is_sent, result_of}
use Rattle.yp_push.specs.Ledgers.{slaves_max, Ledger, asked, is_passed_over, outstanding}

-- what the fields tell
abbrev pub ledger_of : Inside → Ledger
ledger_of inside = record {
  slaves = length inside.outcomes.items;
  first = inside.first;
  window = inside.window;
  events = inside.history;
}

-- The outcomes are the results by the events. The slaves below the number sent were asked, in their order, and of these
-- the ones below the number passed were passed over. The count is that of the outstanding ones.
pub record Keeps (outcomes : List Outcome) (first sent passed count : ℕ) (events : List Event) : Type 0 where
  pub few : length outcomes ≤ slaves_max
  pub in_range : first < 2 ^ 32
  pub results : (slave : ℕ) → slave < length outcomes
      → slice_index_or outcomes slave Unsent ≡ result_of first slave events
  pub in_order : asked events ≡ range_with_len 0 sent
  pub asked_below : (slave : ℕ) → is_sent slave events ≡ nat_lt slave sent
  pub sent_within : sent ≤ length outcomes
  pub passed_below : (slave : ℕ) → slave < sent → is_passed_over slave events ≡ nat_lt slave passed
  pub passed_within : passed ≤ sent
  pub counted : count ≡ outstanding first events

abbrev pub IsKept : Inside → Type 0
IsKept inside =
    Keeps inside.outcomes.items inside.first inside.sent inside.passed inside.outstanding inside.history
