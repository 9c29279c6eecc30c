-- Events that settle one slave, and events that change no result.
use Rattle.std.specs.Prelude.{◌≡◌, ◌≢◌, ℕ, ◌<◌, true, false, None}
use Rattle.yp_push.specs.declared.event.Event.{Event}
use Rattle.yp_push.specs.declared.outcome.Outcome.{Outcome}
use Rattle.yp_push.specs.Results.{is_quiet, is_unanswered}
use Rattle.yp_push.specs.inside.Results.{awaits_call}
use Rattle.yp_push.specs.Ledgers.{Ledger, outcome_at, with_event, asked_by}

-- no slave is asked, and something came
pub record IsReport (event : Event) : Type 0 where
  pub asks_none : asked_by event ≡ None
  pub is_heard : is_quiet event ≡ false

-- One slave has this outcome from now on. The result of no other slave changes.
pub record SettlesSlave (ledger : Ledger) (slave : ℕ) (outcome : Outcome) (event : Event) : Type 0 where
  pub within : slave < ledger.slaves
  pub awaited : awaits_call (outcome_at ledger slave) ≡ true
  pub settled : is_unanswered outcome ≡ false
  pub to : outcome_at (with_event ledger event) slave ≡ outcome
  pub others : (i : ℕ) → i < ledger.slaves → i ≢ slave
      → outcome_at (with_event ledger event) i ≡ outcome_at ledger i
  pub tells : IsReport event

-- no result changes
pub record ChangesNone (ledger : Ledger) (event : Event) : Type 0 where
  pub same : (i : ℕ) → i < ledger.slaves → outcome_at (with_event ledger event) i ≡ outcome_at ledger i
  pub tells : IsReport event
