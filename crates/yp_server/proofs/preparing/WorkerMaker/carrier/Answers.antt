use Rattle.std.proofs.Common.{ap, ◌∙◌}
use Rattle.yp_worker.specs.inside.Mailing.{carrier_of}
use Rattle.yp_host.specs.inside.workers.Charges.{Charged}
use Rattle.yp_server.specs.inside.Serving.{fresh_worker}
use Rattle.yp_server.proofs.preparing.WorkerMaker.carrier.Goals as goal

pub returns : goal.returns
returns g c =
    c.new.ensures ∙ ap (λ host. carrier_of host c.args.carrier_resources.parts c.args.carrier_resources.outbox)
    (c.new-host.ensures ∙ ap (λ (charged : Charged). record (fresh_worker c.args.reader) { told = charged.left }) c.requires.charges)
