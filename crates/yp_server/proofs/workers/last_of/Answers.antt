use Rattle.yp_server.specs.inside.Serving.{after_work}
use Rattle.yp_server.proofs.Posted.{last_connection, same_held}
use Rattle.yp_server.proofs.workers.last_of.Goals as goal

pub returns-clause-last : goal.returns-clause-last
returns-clause-last g c =
    let was = c.requires.manned in
    same_held c.in-Connections.last after_work c.in-Some.server_worker c.in-Connections.is
    (last_connection was.0 was.1 after_work _ _ c.in-Some.server_worker was.2 c.in-Some.ensures.items).1

pub returns-clause-others : goal.returns-clause-others
returns-clause-others g c = λ datagram_workers others was.
    (last_connection datagram_workers others after_work _ _ c.in-Some.server_worker was c.in-Some.ensures.items).0
