use Rattle.yp_worker.specs.Receptions.{opening_by}
use Rattle.yp_server.proofs.Closing.{all_accepted}
use Rattle.yp_server.proofs.serving.serve.Goals as goal

pub returns-clause-all : goal.returns-clause-all
returns-clause-all g c =
    let tells = opening_by g.L.Hall in
    all_accepted c.with_queue.result (tells c.args.resources.listen) (λ s. tells s.listen) (λ s. s.tally.connections)
    (λ s. s.tally.listen_fault) c.with_queue.ensures.gone
