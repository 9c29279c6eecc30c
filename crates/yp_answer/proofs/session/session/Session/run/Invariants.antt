use Rattle.std.specs.Prelude.{IsTrue}
use Rattle.yp_answer.specs.session.Wires.{NeverFalls, wire_of}
use Rattle.yp_answer.specs.session.Progress.{begun}
use Rattle.yp_answer.specs.session.Hosts.{conduct_of}
use Rattle.yp_answer.specs.session.Runs.{dialogue_at}
use Rattle.yp_answer.proofs.session.Sessions.{SoFar}
use Rattle.yp_answer.proofs.session.session.Session.run.Given as goal

abbrev pub invariant-loop : goal.invariant-loop
invariant-loop g l =
    let conduct = conduct_of g.H.View.seen g.H.Host.told g.H.Host.counts g.H.View.stepped g.H.Host.made g.H.Host.carried in
    let wire = wire_of g.S.Source g.K.Sink in
    record {
      so_far : SoFar conduct l.peer l.counter (dialogue_at l.initial.host (wire l.initial.wire) begun) (dialogue_at l.host (wire l.wire) l.self)
          (g.W.Witness.wires l.initial.witness) (g.W.Witness.wires l.witness);
      counts : NeverFalls (wire_of g.S.Source g.K.Sink l.initial.wire) (wire_of g.S.Source g.K.Sink l.wire);
      flushed : IsTrue (g.K.Sink.flushed l.initial.wire.sink) → IsTrue (g.K.Sink.flushed l.wire.sink);
    }
