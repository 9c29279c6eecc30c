use Rattle.yp_answer.specs.session.Hosts.{conduct_of}
use Rattle.yp_rpc.specs.inside.Turns.{box_by}
use Rattle.yp_worker.specs.inside.Mailing.{CarriesOn}
use Rattle.yp_worker.proofs.datagrams.carrier.Carrier.carry_rest.Given as goal

abbrev pub invariant-loop : goal.invariant-loop
invariant-loop g l =
    let conduct = conduct_of g.H.View.seen g.H.Host.told g.H.Host.counts g.H.View.stepped g.H.Host.made g.H.Host.carried in
    record {
      next : (goal.iterator-loop g).can_next l.iterator';
      finite : (goal.iterator-loop g).is_finite l.iterator';
      carries : CarriesOn conduct g.H.CatchUp.counted (box_by g.I.Inbox) g.I.Inbox.faults l.initial.self l.self;
    }
