-- A slave whose answer is awaited, and what a call that is sent leaves.
use Rattle.std.specs.Prelude.{◌≡◌, ℕ, ◌<◌, Option, Some, None}
use Rattle.std.specs.Prelude.{IsTrue}
use Rattle.yp_push.specs.declared.event.Event.TheVariants.{Sent}
use Rattle.yp_push.specs.declared.ledger.Sending.{Sending}
use Rattle.yp_push.specs.declared.outcome.Outcome.TheVariants.{Unanswered}
use Rattle.yp_push.specs.Results.{transid_of}
use Rattle.yp_push.specs.inside.Results.{awaits_call}
use Rattle.yp_push.specs.Ledgers.{Ledger, outcome_at, with_event}

-- the ledger behind such an answer
abbrev pub after_sending : Ledger → Option Sending → Ledger
after_sending ledger None = ledger
after_sending ledger (Some sending) = with_event ledger (Sent sending.slave)

-- a slave was asked, and nothing came of it yet
pub record IsUnanswered (ledger : Ledger) (slave : ℕ) : Type 0 where
  pub within : slave < ledger.slaves
  pub unanswered : outcome_at ledger slave ≡ Unanswered

-- a slave has this transaction, was asked, and has no answer
pub record Awaits (ledger : Ledger) (transid slave : ℕ) : Type 0 where
  pub within : slave < ledger.slaves
  pub named : transid_of ledger.first slave ≡ transid
  pub open_ : IsTrue (awaits_call (outcome_at ledger slave))
