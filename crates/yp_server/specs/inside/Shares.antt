-- What is left for workers that aren't made yet.
use Rattle.std.specs.Prelude.{◌≡◌, ℕ, ◌+◌, []}
use Rattle.yp_server.specs.declared.preparing.WorkerShares.{WorkerShares}

-- Enough is left for so many workers of connections and for so many of datagrams, with three parts more of what workers
-- are charged by, two of the connections that are out, and one of those that have ended. Nothing is out or has ended,
-- and nobody was left anything to be told.
pub record SharesFor {J E : Type 0} (connections mails : ℕ) (shares : WorkerShares J E) : Type 0 where
  pub charges : (shares.charges.parts ≡ connections + mails + 3) × (shares.charges.left ≡ [])
  pub out : (shares.out.parts ≡ connections + 2) × (shares.out.amount ≡ 0)
  pub ended : (shares.ended.parts ≡ connections + 1) × (shares.ended.amount ≡ 0)
