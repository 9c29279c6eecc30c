-- What is summed up of a listener, from one call of it to the next.
use Rattle.std.proofs.Common.{◌≡◌, ℕ, ◌+◌, List, [], ◌∷◌, ◌++◌, length, map, Option, None, Some, refl, sym, ap, subst, ◌∙◌, append_assoc, arith}
use Rattle.std.specs.Prelude.{IfSome}
use Rattle.std.specs.List.{All}
use Rattle.std.proofs.lemmas.List.{append-nil, map-append}
use Rattle.std.proofs.lemmas.List.Elements.{All-nil, All-push, All-weaker}
use Rattle.std.proofs.lemmas.List.Sums.{fold-append}
use Rattle.yp_io.specs.Counts.{capped}
use Rattle.yp_io.specs.Dials.{Connected}
use Rattle.yp_io.specs.Calls.{ListenerHistory, ClosedConnection, GainsCall, closed_then, taken_in}
use Rattle.yp_board.specs.Logs.{Log}
use Rattle.yp_board.specs.Views.{IsFront}
use Rattle.yp_answer.specs.session.Hosts.{Conduct}
use Rattle.yp_worker.specs.Working.{Working}
use Rattle.yp_worker.specs.Receptions.{Terms, GainsWhereTold, ListenTells}
use Rattle.yp_worker.specs.Summing.{Counting, ServedConnection, ends_of, calls_of, let_go_of, WorkerRun, IsWorkerRun, calls_over, TellsClosed, WorkTotals, SumsUp}
use Rattle.yp_worker.specs.inside.Summing.{worker_run_of, EndTells, HasEnded}
use Rattle.yp_worker.proofs.Growing.{front_then}

-- a closer that has closed these has closed one more
pub ends_more : (old new : Option (List ClosedConnection)) (stays : List ServedConnection) (stay : ServedConnection) (past : Option ListenerHistory)
    → IfSome past (λ _. old ≡ Some (ends_of stays)) → new ≡ closed_then old (stay.ended ∷ [])
    → IfSome past (λ _. new ≡ Some (ends_of (stays ++ stay ∷ [])))
ends_more old new stays stay None is more = tt
ends_more old new stays stay (Some calls) is more =
    more
    ∙ ap (λ (o : Option (List ClosedConnection)). closed_then o (stay.ended ∷ [])) is
    ∙ ap (λ (l : List ClosedConnection). Some l) (sym (map-append (λ (s : ServedConnection). s.ended) stays (stay ∷ [])))

abbrev list_of : {H : Type 0} → WorkerRun H → List ClosedConnection
list_of worker_run = ends_of worker_run.stays

-- what is told of closers, as the listener goes on
told_none : (past : Option ListenerHistory) → TellsClosed past past []
told_none None = tt
told_none (Some calls) = sym (append-nil calls.closed)

told_came : (wire : Connected) (old past new : Option ListenerHistory) (out : ℕ) (lists : List (List ClosedConnection)) → GainsWhereTold old past out
    → TellsClosed old past lists → GainsCall wire past new → TellsClosed old new lists
told_came wire None past new out lists tells told gained = tt
told_came wire (Some old) None new out lists tells told gained = absurd tells
told_came wire (Some old) (Some now) None out lists tells told gained = absurd gained
told_came wire (Some old) (Some now) (Some others) out lists tells told gained =
    ap (λ (c : ListenerHistory). c.closed) gained.1 ∙ told

told_more : (old past new : Option ListenerHistory) (out : ℕ) (lists : List (List ClosedConnection)) (list : List ClosedConnection)
    (closed : Option (List ClosedConnection)) → GainsWhereTold old past out → TellsClosed old past lists
    → IfSome old (λ _. closed ≡ Some list) → new ≡ taken_in past closed → TellsClosed old new (lists ++ list ∷ [])
told_more None past new out lists list closed tells told is taken = tt
told_more (Some old) None new out lists list closed tells told is taken = absurd tells
told_more (Some old) (Some now) new out lists list closed tells told is taken =
    subst (λ (o : Option ListenerHistory). TellsClosed (Some old) o (lists ++ list ∷ []))
    (sym (taken ∙ ap (λ (t : Option (List ClosedConnection)). taken_in (Some now) t) is))
    (ap (λ (l : List (List ClosedConnection)). l ++ list ∷ []) told ∙ append_assoc old.closed lists (list ∷ []))

module _ {H T : Type 0} (conduct : Conduct H) (counting : Counting H T) (terms : Terms) where
  -- before the first connection
  pub sums_none : (now : ListenTells) (reached : Log)
      → SumsUp conduct counting terms now now (record { calls = 0; sum = counting.none; reached = reached })
  sums_none now reached = record {
    worker_runs = [];
    closed = told_none now.past;
    returned = refl;
    let_go = omega arith;
    work = All-nil (IsWorkerRun conduct counting terms now.past reached);
    calls_read = refl;
    sum_is = refl;
  }

  -- one more came
  pub sums_came : (wire : Connected) (old now new : ListenTells) (out : ℕ) (totals : WorkTotals T)
      → GainsWhereTold old.past now.past out → SumsUp conduct counting terms old now totals
      → GainsCall wire now.past new.past → new.returned ≡ now.returned → new.let_go ≡ now.let_go
      → SumsUp conduct counting terms old new totals
  sums_came wire old now new out totals tells sums gained returned let_go = record {
    worker_runs = sums.worker_runs;
    closed = told_came wire old.past now.past new.past out (map list_of sums.worker_runs) tells sums.closed gained;
    returned = ap (λ (r : ℕ). capped r 0) returned ∙ sums.returned;
    let_go = let was = sums.let_go in omega (arith, was, let_go);
    work = sums.work;
    calls_read = sums.calls_read;
    sum_is = sums.sum_is;
  }

  -- it tells what it told
  pub sums_same : (old now new : ListenTells) (totals : WorkTotals T) → new.past ≡ now.past
      → new.returned ≡ now.returned → new.let_go ≡ now.let_go → SumsUp conduct counting terms old now totals
      → SumsUp conduct counting terms old new totals
  sums_same old now new totals same returned let_go sums = record {
    worker_runs = sums.worker_runs;
    closed = subst (λ (past : Option ListenerHistory). TellsClosed old.past past (map list_of sums.worker_runs)) (sym same) sums.closed;
    returned = ap (λ (r : ℕ). capped r 0) returned ∙ sums.returned;
    let_go = let was = sums.let_go in omega (arith, was, let_go);
    work = sums.work;
    calls_read = sums.calls_read;
    sum_is = sums.sum_is;
  }

  work_further : (past : Option ListenerHistory) (reached log : Log) → IsFront reached log → (worker_run : WorkerRun H)
      → IsWorkerRun conduct counting terms past reached worker_run → IsWorkerRun conduct counting terms past log worker_run
  work_further past reached log grown worker_run work = record {
    under = work.under;
    from_none = work.from_none;
    takes = work.takes;
    own = work.own;
    served = work.served;
    handed_on = work.handed_on;
    apart = work.apart;
    owned = work.owned;
    front = front_then (conduct.seen worker_run.last.host).known reached log work.front grown;
  }

  all_further : (past : Option ListenerHistory) (reached log : Log) → IsFront reached log → (worker_runs : List (WorkerRun H))
      → All (IsWorkerRun conduct counting terms past reached) worker_runs → All (IsWorkerRun conduct counting terms past log) worker_runs
  all_further past reached log grown worker_runs work =
      All-weaker (IsWorkerRun conduct counting terms past reached) (IsWorkerRun conduct counting terms past log)
      (work_further past reached log grown) worker_runs work

  -- the log goes on
  pub sums_further : (old now : ListenTells) (calls : ℕ) (sum : T) (reached log : Log)
      → SumsUp conduct counting terms old now (record { calls = calls; sum = sum; reached = reached }) → IsFront reached log
      → SumsUp conduct counting terms old now (record { calls = calls; sum = sum; reached = log })
  sums_further old now calls sum reached log sums grown = record {
    worker_runs = sums.worker_runs;
    closed = sums.closed;
    returned = sums.returned;
    let_go = sums.let_go;
    work = all_further old.past reached log grown sums.worker_runs sums.work;
    calls_read = sums.calls_read;
    sum_is = sums.sum_is;
  }

  -- a worker has ended, and its closer was taken in; the log goes on from what all others knew, and from what its host
  -- knew
  pub sums_ended : (old now new : ListenTells) (out : ℕ) (totals : WorkTotals T) (after : Log) (worker : Working H)
      (end : EndTells) → GainsWhereTold old.past now.past out
      → SumsUp conduct counting terms old now totals
      → HasEnded conduct counting terms old.past worker end
      → new.past ≡ taken_in now.past end.closed → new.returned ≡ capped now.returned end.closed_count
      → new.let_go ≡ capped now.let_go end.let_go
      → IsFront (conduct.seen worker.host).known after → IsFront totals.reached after
      → SumsUp conduct counting terms old new (record {
        calls = capped totals.calls end.tally.calls;
        sum = counting.plus totals.sum (counting.counted worker.host);
        reached = after;
      })
  sums_ended old now new out totals after worker end tells sums has taken returned gone covered kept =
      let worker_run = worker_run_of has.first worker has.steps has.stays has.left in record {
        worker_runs = sums.worker_runs ++ worker_run ∷ [];
        closed = subst (λ (lists : List (List ClosedConnection)). TellsClosed old.past new.past lists)
            (sym (map-append (λ (s : WorkerRun H). ends_of s.stays) sums.worker_runs (worker_run ∷ [])))
            (told_more old.past now.past new.past out (map list_of sums.worker_runs) (ends_of has.stays) end.closed tells sums.closed
            has.told taken);
        returned =
            let more = fold-append (λ (n : ℕ) (s : WorkerRun H). n + length s.stays) 0 sums.worker_runs (worker_run ∷ []) in
            let was = sums.returned in
            omega (arith, more, was, returned, has.closed_are);
        let_go =
            let more = fold-append (λ (n : ℕ) (s : WorkerRun H). n + let_go_of s.stays) 0 sums.worker_runs (worker_run ∷ []) in
            let was = sums.let_go in
            omega (arith, more, was, gone, has.let_go_are);
        work = All-push (IsWorkerRun conduct counting terms old.past after) sums.worker_runs worker_run
            (all_further old.past totals.reached after kept sums.worker_runs sums.work) (record {
              under = has.under;
              from_none = has.from_none;
              takes = has.takes;
              own = has.own;
              served = has.served;
              handed_on = has.handed_on;
              apart = has.apart;
              owned = has.owned;
              front = covered;
            });
        calls_read =
            ap (λ (n : ℕ). capped n end.tally.calls) sums.calls_read
            ∙ ap (λ (n : ℕ). capped (calls_over sums.worker_runs) n) has.calls_are
            ∙ sym (fold-append (λ (n : ℕ) (s : WorkerRun H). capped n (calls_of s.stays)) 0 sums.worker_runs (worker_run ∷ []));
        sum_is =
            ap (λ (total : T). counting.plus total (counting.counted worker.host)) sums.sum_is
            ∙ sym (fold-append (λ (total : T) (s : WorkerRun H). counting.plus total (counting.counted s.last.host)) counting.none sums.worker_runs (worker_run ∷ []));
      }
