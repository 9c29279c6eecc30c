use Rattle.std.proofs.Common.{ap, ◌∙◌}
use Rattle.yp_host.specs.workers.Charges.{counted_of}
use Rattle.yp_host.specs.inside.workers.Charges.{Charged}
use Rattle.yp_server.specs.inside.Serving.{fresh_worker}
use Rattle.yp_server.proofs.preparing.WorkerMaker.worker.Goals as goal

pub returns-clause-none : goal.returns-clause-none
returns-clause-none g c =
    ap (λ worker. counted_of worker.host) c.new.ensures
    ∙ ap counted_of
    (c.new-host.ensures ∙ ap (λ (charged : Charged). record (fresh_worker c.args.reader) { told = charged.left }) c.requires.charges)
