use Rattle.std.proofs.Common.{None, false, ap, ◌∙◌}
use Rattle.yp_host.specs.inside.workers.Charges.{Charged}
use Rattle.yp_server.specs.inside.Serving.{fresh_worker}
use Rattle.yp_server.proofs.preparing.WorkerMaker.datagram_worker.Goals as goal

pub returns : goal.returns
returns g c =
    let resources = c.args.datagram_resources in
    c.new.ensures ∙ ap (λ server. record {
      inbox = resources.inbox;
      server = server;
      room = resources.room;
      turns = resources.turns;
      fault = false;
    })
    (c.new-server.ensures ∙ ap (λ host. record { host = host; waiting = None; holding = c.args.part })
    (c.new-host.ensures ∙ ap (λ (charged : Charged). record (fresh_worker resources.reader) { told = charged.left }) c.requires.charges)
    ∙ ap (λ holding. record { host = fresh_worker resources.reader; waiting = None; holding = holding }) c.requires.part)
