-- What a worker holds before it begins, and once it has ended.
use Rattle.std.specs.Prelude.{[]}
use Rattle.yp_host.specs.workers.Workers.{WorkerState}
use Rattle.yp_worker.specs.inside.Receptions.{Passed}

-- what a worker holds of a listener before it begins, and once it has ended
abbrev pub before_work : Passed
before_work = record { parts = 1; out = 0; ended = 0 }

abbrev pub after_work : Passed
after_work = record { parts = 1; out = 0; ended = 1 }

-- a host that has counted nothing yet
abbrev pub fresh_worker : {V : Type 0} → V → WorkerState V
fresh_worker reader = record {
  reader = reader;
  files = 0;
  made = 0;
  transfers = 0;
  outcomes = record { no_address = 0; no_memory = 0; file = 0; source = 0; reached = 0 };
  told = [];
}
