use Rattle.std.proofs.Common.{refl}
use Rattle.yp_worker_tests.proofs.run.shared.Goals as goal

-- nothing was shown before the first connection
pub run_beside-pass-requires-clause-first : goal.run_beside-pass-requires-clause-first
run_beside-pass-requires-clause-first g c κs within =
    rw (c.worker.ensures, c.requires.starts) (record {
      catalogue = c.requires.first;
      knows = (_, refl);
      most = c.requires.most;
    })

pub run_beside-pass-requires-clause-second : goal.run_beside-pass-requires-clause-second
run_beside-pass-requires-clause-second g c κs within =
    rw (c.worker-2.ensures, c.requires.starts) (record {
      catalogue = c.requires.second;
      knows = (_, refl);
      most = c.requires.most;
    })
