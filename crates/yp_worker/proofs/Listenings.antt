-- What lies under the lock of a listener, from one call of it to the next.
use Rattle.std.proofs.Common.{◌≡◌, ◌⊎◌, inl, ℕ, ◌<◌, ◌≤◌, Bool, true, false, List, [], Option, None, Some, Result, Ok, Err, is_err, ap, subst, ◌∙◌}
use Rattle.std.specs.Prelude.{IfSome, OnOk}
use Rattle.yp_io.specs.Counts.{HasRisen}
use Rattle.yp_io.specs.Calls.{ListenerHistory, ClosedConnection, Accepting, none_closed}
use Rattle.yp_answer.specs.session.Hosts.{Conduct}
use Rattle.yp_worker.specs.Receptions.{Terms, GainsWhereTold, ListenTells, AcceptsNoMore, IsListenerState}
use Rattle.yp_worker.specs.Summing.{Counting}
use Rattle.yp_worker.specs.inside.Listenings.{ListeningTells, IsListening}
use Rattle.yp_worker.proofs.Receiving.{told, kept_none_more, over_same}
use Rattle.yp_worker.proofs.Summing.{sums_same}

-- what holds of a result that is no error
pub where_ok : {T E P : Type 0} (result : Result T E) → false ≡ is_err result → OnOk result P → P
where_ok (Ok value) sound holds = holds
where_ok (Err why) sound holds = absurd cc

-- a closer that has closed none tells none, where the listener tells its connections
pub closed_none : (old now : Option ListenerHistory) (out : ℕ) (closed : Option (List ClosedConnection)) → GainsWhereTold old now out
    → closed ≡ none_closed now → IfSome old (λ _. closed ≡ Some [])
closed_none None now out closed tells is = tt
closed_none (Some old) None out closed tells is = absurd tells
closed_none (Some old) (Some now) out closed tells is = is

-- all workers have ended, and nobody is out
pub kept_over : (old now : ListenTells) (connections : ℕ) (failed : Bool) (out ended : ℕ) → out ≡ 0 → 0 < ended
    → IsListenerState old now connections failed out ended → IsListenerState old now connections failed 0 1
kept_over old now connections failed out ended nobody some kept =
    subst (λ (n : ℕ). IsListenerState old now connections failed n 1) nobody (record {
      most = kept.most;
      accepts = kept.accepts;
      tells = kept.tells;
      never_falls = kept.never_falls;
      fault = kept.fault;
      over = λ one. kept.over some;
    })

module _ {H T : Type 0} (conduct : Conduct H) (counting : Counting H T) (terms : Terms) (old : ListenTells)
    {now : ListeningTells T} (is : IsListening conduct counting terms old now) where
  -- none came, and the listener tells what it told
  pub none_more : (new : ListenTells) (after : Bool) (more : ℕ) → told new ≡ told now.listen
      → new.returned ≡ now.listen.returned → new.let_go ≡ now.listen.let_go → now.listen.faults ≤ new.faults
      → (after ≡ true → (now.failed ≡ true) ⊎ HasRisen now.listen.faults new.faults)
      → (0 < more → AcceptsNoMore after new)
      → IsListening conduct counting terms old (record now { listen = new; failed = after; ended = more })
  none_more new after more same returned let_go falls fault over = record {
    state = kept_none_more old now.listen new now.connections now.failed now.out now.ended is.state after more same
        returned falls fault over;
    sums = sums_same conduct counting terms old now.listen new now.totals
        (ap (λ (a : Accepting). a.past) same) returned let_go is.sums;
    held = is.held;
    one_part = is.one_part;
  }

  -- nor has a worker ended
  pub stays : (new : ListenTells) → told new ≡ told now.listen → new.returned ≡ now.listen.returned
      → new.let_go ≡ now.listen.let_go → now.listen.faults ≤ new.faults
      → IsListening conduct counting terms old (record now { listen = new })
  stays new same returned let_go falls =
      none_more new now.failed now.ended same returned let_go falls (λ was. inl was)
      (λ some. over_same old now.listen new now.connections now.failed now.out now.ended is.state
      (ap (λ (a : Accepting). a.accepted) same) (ap (λ (a : Accepting). a.most) same) (is.state.over some))

  -- another number waits, and is held
  pub wait_so : (waiting held parts : ℕ) → held ≡ waiting → parts ≡ now.held_parts
      → IsListening conduct counting terms old (record now { waiting = waiting; held = held; held_parts = parts })
  wait_so waiting held parts held_is same = record {
    state = is.state;
    sums = is.sums;
    held = held_is;
    one_part = same ∙ is.one_part;
  }
