-- The places at which a server works, side by side.
use Rattle.std.specs.Prelude.{◌≡◌, ℕ, ◌+◌, ◌<◌, List, [], ◌∷◌, ◌++◌, length, map, replicate, slice_index_or}
use Rattle.std.specs.Prelude.{true, false, Result, is_err}
use Rattle.yp_io.specs.Counts.{HasRisen}
use Rattle.yp_io.specs.declared.stream.Failed.{Failed}
use Rattle.yp_answer.specs.session.Hosts.{Conduct}
use Rattle.yp_rpc.specs.Turns.{InboxTells}
use Rattle.yp_rpc.specs.declared.turns.Ended.{Ended}
use Rattle.yp_worker.specs.datagrams.Serving.{ServesMail}
use Rattle.yp_worker.specs.inside.Receptions.{Passed}
use Rattle.yp_host.specs.workers.Workers.{WorkerState}
use Rattle.yp_worker.specs.datagrams.Mailing.{QueueName}
use Rattle.yp_server.specs.declared.datagrams.DatagramResources.{DatagramResources}
use Rattle.yp_server.specs.declared.datagrams.DatagramWorker.{DatagramWorker}
use Rattle.yp_server.specs.declared.workers.ServerWorker.{ServerWorker}
use Rattle.yp_server.specs.declared.workers.ServerWorker.TheVariants.{Connections, Datagrams}
use Rattle.yp_server.specs.Serving.{at_rest}
use Rattle.yp_server.specs.inside.Serving.{fresh_worker}

-- a worker of datagrams with what is in this datagram_resources, before its first turn
abbrev pub datagram_worker_of : {I J R V F : Type 0} → QueueName → DatagramResources I V
    → DatagramWorker I J (WorkerState V) F R
datagram_worker_of queue datagram_resources = record {
  inbox = datagram_resources.inbox;
  server = at_rest queue (fresh_worker datagram_resources.reader);
  room = datagram_resources.room;
  turns = datagram_resources.turns;
  fault = false;
}

-- what a worker of datagrams made of its turns
pub record AnswersDatagrams {I J H F R T : Type 0} (conduct : Conduct H) (counted : H → T) (box : I → InboxTells)
    (faults : I → ℕ)
    (old new : DatagramWorker I J H F R) : Type 0 where
  pub end : Result Ended Failed
  pub fault_is : new.fault ≡ is_err end
  pub serves : ServesMail conduct counted old.turns end old.server new.server (box old.inbox) (box new.inbox)
  pub cause : new.fault ≡ true → HasRisen (faults old.inbox) (faults new.inbox)

-- what work leaves of a worker: a worker of connections has ended, and a worker of datagrams has made this of them
abbrev pub Works : {J E H G I R M F N : Type 0} → (DatagramWorker I J H F R → DatagramWorker I J H F R → Type 0)
    → ServerWorker J E H F G I R M F N
    → ServerWorker J E H F G I R M F N → Type 0
Works mails (Connections old) (Connections new) = new ≡ record old { ended = old.ended + 1 }
Works mails (Datagrams old) (Datagrams new) = mails old new
Works mails old new = ⊥

-- Work was done at each place of this list.
abbrev pub AllWork : {P : Type 0} → (P → P → Type 0) → List P → List P → Type 0
AllWork {P} works old new = (i : ℕ) (d : P) → i < length old → works (slice_index_or old i d) (slice_index_or new i d)

-- so many workers of connections, which hold this
abbrev pub connections_of : {J E H G I R M F N : Type 0} → ℕ → Passed → List (ServerWorker J E H F G I R M F N)
connections_of count held = replicate count (Connections held)

-- these workers of datagrams, and behind them so many of connections, which hold this
abbrev pub workers_of : {J E H G I R M F N : Type 0} → List (DatagramWorker I J H F R) → ℕ → Passed
    → List (ServerWorker J E H F G I R M F N)
workers_of datagram_workers others held =
    map (λ datagram_worker. Datagrams datagram_worker) datagram_workers ++ connections_of others held

-- A server has these workers of datagrams, and behind them one of connections and so many others, which hold this. A
-- ledger has two parts more than there are of connections.
pub record IsManned {J E H G I R M F N : Type 0} (datagram_workers : List (DatagramWorker I J H F R))
    (held : Passed) (parts : ℕ) (all_workers : List (ServerWorker J E H F G I R M F N)) : Type 0 where
  pub others : ℕ
  pub parts_are : parts ≡ others + 3
  pub workers_are : all_workers ≡ workers_of datagram_workers (others + 1) held

-- the workers of datagrams among workers, in their order
abbrev pub mails_in : {J E H G I R M F N : Type 0} → List (ServerWorker J E H F G I R M F N)
    → List (DatagramWorker I J H F R)
mails_in [] = []
mails_in (Connections held ∷ all_workers) = mails_in all_workers
mails_in (Datagrams datagram_worker ∷ all_workers) = datagram_worker ∷ mails_in all_workers

-- what the workers of connections among workers hold together
abbrev pub held_in : {J E H G I R M F N : Type 0} → List (ServerWorker J E H F G I R M F N) → Passed
held_in [] = record { parts = 0; out = 0; ended = 0 }
held_in (Connections held ∷ all_workers) = record {
  parts = held.parts + (held_in all_workers).parts;
  out = held.out + (held_in all_workers).out;
  ended = held.ended + (held_in all_workers).ended;
}
held_in (Datagrams datagram_worker ∷ all_workers) = held_in all_workers
