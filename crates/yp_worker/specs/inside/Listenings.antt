-- What lies under the lock of a listener, whenever the lock is got.
use Rattle.std.specs.Prelude.{◌≡◌, ℕ, Bool}
use Rattle.yp_answer.specs.session.Hosts.{Conduct}
use Rattle.yp_worker.specs.Receptions.{Terms, ListenTells, IsListenerState}
use Rattle.yp_worker.specs.Summing.{Counting, WorkTotals, SumsUp}

-- what is told of what lies under the lock: the listener, how many connections came by it, whether an accept or a watch
-- has failed, how many connections are out, how many workers have ended, what is told of these, how many guests wait
-- for a worker, and how many connections a share holds for them, of how many parts it is
pub record ListeningTells (T : Type 0) : Type 0 where
  pub listen : ListenTells
  pub connections : ℕ
  pub failed : Bool
  pub out : ℕ
  pub ended : ℕ
  pub totals : WorkTotals T
  pub waiting : ℕ
  pub held : ℕ
  pub held_parts : ℕ

module _ {H T : Type 0} (conduct : Conduct H) (counting : Counting H T) (terms : Terms) where
  -- A listener is as its workers left it, and what those that have ended did is summed up. The guests that wait for a
  -- worker are counted by a share of one part.
  pub record IsListening (old : ListenTells) (now : ListeningTells T) : Type 0 where
    pub state : IsListenerState old now.listen now.connections now.failed now.out now.ended
    pub sums : SumsUp conduct counting terms old now.listen now.totals
    pub held : now.held ≡ now.waiting
    pub one_part : now.held_parts ≡ 1
