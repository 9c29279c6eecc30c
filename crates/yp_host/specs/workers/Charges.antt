-- What workers count, and what they are charged with for it.
use Rattle.std.specs.Prelude.{ℕ, ◌+◌, min, [], ◌++◌}
use Rattle.yp_io.specs.Counts.{last_count}
use Rattle.yp_host.specs.declared.workers.charges.Counted.{Counted}
use Rattle.yp_host.specs.declared.workers.outcome.Outcomes.{Outcomes}
use Rattle.yp_host.specs.declared.workers.outcome.Totals.{Totals}
use Rattle.yp_host.specs.workers.Workers.{WorkerState}

-- ---- what was counted

-- a count and another, up to the last count
abbrev pub capped_sum : ℕ → ℕ → ℕ
capped_sum one other = min (one + other) last_count

abbrev pub no_outcomes : Outcomes
no_outcomes = record { no_address = 0; no_memory = 0; file = 0; source = 0; reached = 0 }

abbrev pub outcomes_plus : Outcomes → Outcomes → Outcomes
outcomes_plus one other = record {
  no_address = capped_sum one.no_address other.no_address;
  no_memory = capped_sum one.no_memory other.no_memory;
  file = capped_sum one.file other.file;
  source = capped_sum one.source other.source;
  reached = capped_sum one.reached other.reached;
}

abbrev pub no_totals : Totals
no_totals = record { files = 0; made = 0; transfers = 0; outcomes = no_outcomes }

abbrev pub totals_plus : Totals → Totals → Totals
totals_plus one other = record {
  files = capped_sum one.files other.files;
  made = capped_sum one.made other.made;
  transfers = capped_sum one.transfers other.transfers;
  outcomes = outcomes_plus one.outcomes other.outcomes;
}

-- what a host has counted
abbrev pub totals_of : {V : Type 0} → WorkerState V → Totals
totals_of worker = record {
  files = worker.files;
  made = worker.made;
  transfers = worker.transfers;
  outcomes = worker.outcomes;
}

-- what hosts have counted, and whom they left what to be told, each in its order
abbrev pub nothing_counted : Counted
nothing_counted = record { totals = no_totals; told = [] }

abbrev pub counted_plus : Counted → Counted → Counted
counted_plus one other = record { totals = totals_plus one.totals other.totals; told = one.told ++ other.told }

abbrev pub counted_of : {V : Type 0} → WorkerState V → Counted
counted_of worker = record { totals = totals_of worker; told = worker.told }
